use Rattle.std.proofs.Common.{◌≡◌, ap, sym, ◌∙◌, arith}
use Rattle.cv_caller.specs.Keyed.{held_by}
use Rattle.cv_world.proofs.Counting.{written}
use Rattle.cv_world.proofs.tables.bind.Goals as goal

pub returns-in-Some-clause-counted : goal.returns-in-Some-clause-counted
returns-in-Some-clause-counted c =
    let w = c.bind.new.self in
    let sum = written c.args.map.now (c.get_mut.follows.lender w) c.args.caller c.in-Some.kept.now w
    (sym c.in-Some.ensures.value) (c.get_mut.follows.holds w).0 in
    let was : held_by c.deref_mut.result.now ≡ held_by c.in-Some.kept.now =
    ap held_by (c.deref_mut.ensures.value ∙ c.kept.view_is) in
    omega (arith, sum, was, c.bind.ensures.counted)
