use Rattle.std.proofs.Common.{sym}
use Rattle.cv_world.proofs.Counting.{exchanges}
use Rattle.cv_world.proofs.tables.drop_map.Goals as goal

pub returns-in-Some-clause-counted : goal.returns-in-Some-clause-counted
returns-in-Some-clause-counted c =
    let w = c.drop_map.new.self in
    exchanges c.args.map.now (c.get_mut.follows.lender w) c.args.caller c.in-Some.kept.now w
    (sym c.in-Some.ensures.value) (c.get_mut.follows.holds w)
