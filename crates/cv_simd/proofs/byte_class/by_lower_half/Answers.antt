use Rattle.cv_simd.proofs.ClassLanes.{low_ok, lower_half}
use Rattle.cv_simd.proofs.byte_class.by_lower_half.Goals as goal

pub swizzle : goal.swizzle
swizzle c = low_ok c.args.bytes c.fits-bytes

pub returns : goal.returns
returns c = lower_half c.args.class c.args.bytes c.fits-bytes
