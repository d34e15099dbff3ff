use Rattle.cv_simd.proofs.CompressedTriples.{row_ok, row_finds}
use Rattle.cv_simd.proofs.triples.compress_triples.Goals as goal

pub swizzle : goal.swizzle
swizzle c = row_ok c.args.sizes c.requires

pub returns : goal.returns
returns c = row_finds c.args.sizes c.args.groups c.requires
