use Rattle.std.proofs.Common.{arith}
use Rattle.cv_utf7.proofs.UnitCounts.{count_few, count_long, ends}
use Rattle.cv_utf7.proofs.write.groups.count_units.Goals as goal

pub returns-clause-few : goal.returns-clause-few
returns-clause-few c = count_few (ends c.args.units) (omega arith)

pub returns-clause-long : goal.returns-clause-long
returns-clause-long c k l = count_long c.args.units k c.fits-units.0 c.fits-units.1 l
