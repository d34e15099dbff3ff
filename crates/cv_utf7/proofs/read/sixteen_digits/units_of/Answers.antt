use Rattle.std.proofs.Common.{arith}
use Rattle.cv_utf7.proofs.UnitLanes.{units_are}
use Rattle.cv_utf7.proofs.read.sixteen_digits.units_of.Goals as goal

pub returns : goal.returns
returns c = units_are c.args.values c.quads_of-bytes.result (omega arith) c.requires c.quads_of-bytes.ensures
