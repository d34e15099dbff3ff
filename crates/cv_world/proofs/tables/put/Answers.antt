use Rattle.std.proofs.Common.{sym, ◌∙◌}
use Rattle.std.specs.Arc.{arc_value}
use Rattle.cv_world.proofs.Counting.{exchanges, put_sum}
use Rattle.cv_world.proofs.tables.put.Goals as goal

pub returns-clause-counted : goal.returns-clause-counted
returns-clause-counted c =
    let w = c.put_one.new.table in
    exchanges c.args.map.now (c.get_mut.follows.lender w) c.args.caller c.in-Some.kept.now w
    (sym c.in-Some.ensures.value) (c.get_mut.follows.holds w)

pub returns-clause-sum : goal.returns-clause-sum
returns-clause-sum c =
    let w = c.put_one.new.table in
    put_sum c.args.map.now (c.get_mut.follows.lender w) c.args.caller c.deref_mut.result.now c.in-Some.kept.now w
    (arc_value c.args.charmap) c.put_one.result (sym c.in-Some.ensures.value) (c.get_mut.follows.holds w)
    (c.deref_mut.ensures.value ∙ c.kept.view_is) c.put_one.ensures.put
