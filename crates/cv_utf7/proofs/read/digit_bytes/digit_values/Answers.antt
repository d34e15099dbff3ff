use Rattle.std.proofs.Common.{w8}
use Rattle.std.proofs.lemmas.Simd.{below_from_Fits}
use Rattle.cv_utf7.proofs.DigitLanes.{entries_ok, value_lane}
use Rattle.cv_utf7.proofs.read.digit_bytes.digit_values.Goals as goal

pub swizzle : goal.swizzle
swizzle c = entries_ok c.args.bytes c.fits-bytes.0 (below_from_Fits w8 c.args.bytes c.fits-bytes.1)

pub returns : goal.returns
returns c i h d = value_lane c.args.bytes i c.fits-bytes.0 (below_from_Fits w8 c.args.bytes c.fits-bytes.1) h d
