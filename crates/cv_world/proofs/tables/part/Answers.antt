use Rattle.std.proofs.Common.{sym, ◌∙◌}
use Rattle.cv_world.proofs.Counting.{exchanges, part_sum}
use Rattle.cv_world.proofs.tables.part.Goals as goal

pub returns-clause-counted : goal.returns-clause-counted
returns-clause-counted c =
    let w = c.add_part.new.self in
    exchanges c.args.map.now (c.get_mut.follows.lender w) c.args.caller c.in-Some.kept.now w
    (sym c.in-Some.ensures.value) (c.get_mut.follows.holds w)

pub returns-clause-sum : goal.returns-clause-sum
returns-clause-sum c =
    let w = c.add_part.new.self in
    part_sum c.args.map.now (c.get_mut.follows.lender w) c.args.caller c.deref_mut.result.now c.in-Some.kept.now w
    c.args.bytes.now c.add_part.result (sym c.in-Some.ensures.value) (c.get_mut.follows.holds w)
    (c.deref_mut.ensures.value ∙ c.kept.view_is) c.add_part.ensures.parted
