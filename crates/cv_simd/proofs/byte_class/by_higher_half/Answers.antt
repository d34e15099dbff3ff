use Rattle.cv_simd.proofs.ClassLanes.{high_ok, higher_half}
use Rattle.cv_simd.proofs.byte_class.by_higher_half.Goals as goal

pub swizzle : goal.swizzle
swizzle c = high_ok c.args.bytes c.fits-bytes

pub returns : goal.returns
returns c = higher_half c.args.bytes c.fits-bytes
