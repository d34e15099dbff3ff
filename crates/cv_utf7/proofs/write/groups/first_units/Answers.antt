use Rattle.std.proofs.Common.{refl}
use Rattle.cv_block.proofs.FirstLanes.{first_are}
use Rattle.cv_utf7.proofs.write.groups.first_units.Goals as goal

pub returns : goal.returns
returns c = first_are 8 c.args.units c.args.n c.fits-units.0 refl
