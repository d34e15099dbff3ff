use Rattle.std.proofs.Common.{w16}
use Rattle.std.proofs.lemmas.Simd.{below_from_Fits}
use Rattle.cv_utf7.proofs.PairLanes.{pairs_are}
use Rattle.cv_utf7.proofs.write.digit_lanes.pairs_of.Goals as goal

pub returns : goal.returns
returns c = pairs_are c.args.units c.fits-units.0 (below_from_Fits w16 c.args.units c.fits-units.1)
