use Rattle.std.proofs.Common.{◌≡◌, ap, sym, ◌∙◌}
use Rattle.cv_caller.specs.Keyed.{held_by}
use Rattle.cv_world.proofs.Counting.{written, unbound_sum}
use Rattle.cv_world.proofs.tables.unbind.Goals as goal

pub returns-in-Some-clause-counted : goal.returns-in-Some-clause-counted
returns-in-Some-clause-counted c =
    let w = c.unbind.new.self in
    let sum = written c.args.map.now (c.get_mut.follows.lender w) c.args.caller c.in-Some.kept.now w
    (sym c.in-Some.ensures.value) (c.get_mut.follows.holds w).0 in
    let was : held_by c.deref_mut.result.now ≡ held_by c.in-Some.kept.now =
    ap held_by (c.deref_mut.ensures.value ∙ c.kept.view_is) in
    unbound_sum c.unbind.result c.is_some.result _ _ _ _ _ c.is_some.ensures was c.unbind.ensures.counted sum
