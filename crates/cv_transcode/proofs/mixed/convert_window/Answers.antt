use Rattle.std.proofs.Common.{arith, refl, sym, subst, ℕ, ◌+◌, ◌*◌, ◌/◌, take}
use Rattle.std.proofs.lemmas.List.{take_rest}
use Rattle.cv_block.specs.Units.{AreScalarsBelow}
use Rattle.cv_transcode.specs.Private.Windows.{AreFirst}
use Rattle.cv_transcode.proofs.Parts.{converted_more, first_converted, whole_converted}
use Rattle.cv_transcode.proofs.mixed.convert_window.Goals as goal

pub returns-then-n-eq-LANES-clause-converted : goal.returns-then-n-eq-LANES-clause-converted
returns-then-n-eq-LANES-clause-converted g c =
    let all = subst (λ (n : ℕ). AreScalarsBelow c.window-units.result n) c.if-n-eq-LANES.true
    c.count_characters-n.ensures.characters in
    rw c.window_size-size.ensures.size (whole_converted g.S.WindowReader.bytes_of g.T.WindowWriter.bytes_of
    c.args.text.now c.args.out.now c.args.at _ c.write_window.result c.write_window.new.out c.window-units.result
    (c.window-units.ensures.window all) c.write_window.ensures.put)

pub returns-clause-converted : goal.returns-clause-converted
returns-clause-converted g c =
    let from = g.S.WindowReader.bytes_of in
    let to = g.T.WindowWriter.bytes_of in
    let n = c.count_characters-n.result in
    let units = c.window-units.result in
    let wrote = c.write_first-wrote.result in
    let supplementary = c.convert_supplementary-supplementary.result in
    let first : AreFirst from (n * (c.window_size-size.result / 16)) c.args.text.now (take n units) =
    subst (λ (size : ℕ). AreFirst from (n * (size / 16)) c.args.text.now (take n units))
    (sym c.window_size-size.ensures.size) (c.window-units.ensures.front n c.count_characters-n.ensures.few
    c.count_characters-n.ensures.characters) in
    let part = first_converted from to c.args.text.now c.args.out.now c.args.at (n * (c.window_size-size.result / 16))
    wrote 48 c.write_first-wrote.new.out (take n units) first c.write_first-wrote.ensures.put in
    converted_more from to c.args.text.now c.args.out.now c.args.at (n * (c.window_size-size.result / 16)) wrote 48
    supplementary supplementary 0 48 (c.args.at + wrote) c.write_first-wrote.new.out
    c.convert_supplementary-supplementary.new.out part refl
    (rw take_rest at c.convert_supplementary-supplementary.ensures.converted) (omega arith) (omega arith)
