use Rattle.std.proofs.Common.{◌≡◌, ◌+◌, length, ap, sym, ◌∙◌, arith}
use Rattle.cv_caller.specs.Keyed.{Keyed, place_at}
use Rattle.cv_world.proofs.Counting.{gone, there, unbound_bytes}
use Rattle.cv_world.proofs.tables.remove.Goals as goal

pub returns-in-Some-clause-counted : goal.returns-in-Some-clause-counted
returns-in-Some-clause-counted c =
    let v = c.in-Some.kept in
    let was = sym c.in-Some.ensures.value in
    let sum = gone c.args.map.now c.remove.new.self c.args.caller v was c.in-Some.ensures.entries in
    let free = unbound_bytes v.places
    (λ n. ap (λ (k : Keyed). place_at k n) (sym (there c.args.map.now c.args.caller v was)) ∙ c.requires n) in
    let table = c.deref.ensures ∙ c.kept.view_is in
    let bytes : c.upload_bytes.result ≡ v.bytes + length v.part = c.upload_bytes.ensures.sum
    ∙ ap (λ (k : Keyed). k.bytes + length k.part) table in
    omega (arith, sum, free, bytes)
