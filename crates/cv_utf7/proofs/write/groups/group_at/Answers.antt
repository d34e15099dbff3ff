use Rattle.std.proofs.Common.{arith}
use Rattle.cv_utf7.proofs.UnitCounts.{is_group}
use Rattle.cv_utf7.proofs.write.groups.group_at.Goals as goal

pub returns : goal.returns
returns c =
    let may = c.may_be_group.ensures in
    let sure = c.if-not-may_be_group.false in
    let whole = c.is_whole.ensures in
    is_group c.args.characters.now c.eight_units-units.result c.first_units.result c.args.n c.count_units-count.result
    (omega arith) c.count_units-count.ensures.few
    (may.many sure) (may.first sure) (may.second sure) c.eight_units-units.ensures
    c.count_units-count.ensures.long c.first_units.ensures (whole.many c.if-not-is_whole.false)
    (whole.ends c.if-not-is_whole.false)
