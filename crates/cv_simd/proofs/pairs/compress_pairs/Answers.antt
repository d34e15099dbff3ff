use Rattle.cv_simd.proofs.CompressedPairs.{row_ok, row_finds}
use Rattle.cv_simd.proofs.pairs.compress_pairs.Goals as goal

pub swizzle : goal.swizzle
swizzle c = row_ok c.args.two_byte_mask c.requires

pub returns : goal.returns
returns c = row_finds c.args.two_byte_mask c.args.pairs c.requires
