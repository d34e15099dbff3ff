use Rattle.std.proofs.Common.{w8}
use Rattle.std.proofs.lemmas.Simd.{below_from_Fits}
use Rattle.cv_utf7.proofs.WrittenDigits.{indexes_are}
use Rattle.cv_utf7.proofs.write.digit_lanes.indexes_of.Goals as goal

pub returns : goal.returns
returns c = indexes_are c.args.values c.fits-values.0 (below_from_Fits w8 c.args.values c.fits-values.1)
