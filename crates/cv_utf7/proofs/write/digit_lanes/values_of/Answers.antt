use Rattle.std.proofs.Common.{w16}
use Rattle.std.proofs.lemmas.Simd.{below_from_Fits}
use Rattle.cv_utf7.proofs.PairLanes.{values_are}
use Rattle.cv_utf7.proofs.write.digit_lanes.values_of.Goals as goal

pub returns : goal.returns
returns c = values_are c.args.pairs c.fits-pairs.0 (below_from_Fits w16 c.args.pairs c.fits-pairs.1)
