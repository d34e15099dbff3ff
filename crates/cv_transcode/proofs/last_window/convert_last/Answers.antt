use Rattle.std.proofs.Common.{◌<◌, ◌*◌, ◌/◌, ℕ, List, ap, arith, subst, sym}
use Rattle.std.proofs.Math.Nat.{mul-pos}
use Rattle.cv_transcode.specs.Runs.{IsTranscoded}
use Rattle.cv_transcode.proofs.LastWindow.{last_converted}
use Rattle.cv_transcode.proofs.last_window.convert_last.Goals as goal

pub returns-clause-none : goal.returns-clause-none
returns-clause-none g c =
    let some : 0 < c.min-n.result = omega (arith, c.if-n-eq0.false) in
    let size : 0 < c.window_size-size.result / 16 = omega (arith, c.window_size-size.ensures.some) in
    λ e. absurd (omega (arith, e, mul-pos some size))

pub returns-clause-run : goal.returns-clause-run
returns-clause-run g c =
    let from = g.S.WindowReader.bytes_of in
    let to = g.T.WindowWriter.bytes_of in
    let n = c.min-n.result in
    let units = c.window-units.result in
    let size = c.window_size-size.result / 16 in
    let wrote = c.write_first-wrote.result in
    let front = c.copy_from_slice.new.self in
    let copied = c.copy_from_slice.ensures.after in
    subst (λ (x : List ℕ). IsTranscoded from to x c.args.out.now c.args.at (record { used = n * size; wrote = wrote })
    c.copy_prefix.new.out) copied (last_converted from to front _ _ c.write_first-wrote.new.out c.args.out.now
    c.args.at n _ size wrote units c.copy_prefix.new.out (ap (λ (w : ℕ). w / 16) (sym c.window_size-size.ensures.size))
    (rw copied (omega (arith, c.min-n.ensures))) (c.window-units.ensures.front n
    (omega (arith, c.min-n.ensures, c.count_characters.ensures.few))
    (λ k h. c.count_characters.ensures.characters k (omega (arith, h, c.min-n.ensures))))
    c.write_first-wrote.ensures.put (omega (arith, c.if-wrote-out.false, c.requires.within)) c.copy_prefix.ensures)
