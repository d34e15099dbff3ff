use Rattle.std.proofs.Common.{◌≡◌, ℕ, ◌+◌, ◌-◌, List, ◌++◌, length, take, drop, ap, ◌∙◌, arith, length-append}
use Rattle.std.proofs.lemmas.List.{length-take, length-drop}
use Rattle.std.proofs.lemmas.Slice.{drop-put_mid}
use Rattle.cv_world.proofs.WrittenFrames.{given_back}
use Rattle.cv_world.proofs.framing.put.Goals as goal

pub returns-clause-rest : goal.returns-clause-rest
returns-clause-rest c =
    let held = c.deref_mut.result.now in
    let y = c.copy_from_slice.new.self in
    let at = c.args.at in
    let n = length c.args.bytes.now in
    let rest : List ℕ = drop (at + n - at) (drop at held) in
    let size : length y ≡ n = ap length c.copy_from_slice.ensures.after in
    let whole : length (take at held ++ (y ++ rest)) ≡ c.args.out.now.len =
    grind (arith, size, c.requires, c.deref_mut.ensures.len, length-append, length-take, length-drop) in
    ap (drop (at + n)) (given_back (take at held ++ (y ++ rest)) c.args.out.now.items c.args.out.now.len whole)
    ∙ drop-put_mid at (at + n - at) held y (at + n) (omega arith) (omega (arith, c.requires, c.deref_mut.ensures.len))
    (omega (arith, size)) ∙ ap (drop (at + n)) c.deref_mut.ensures.value
