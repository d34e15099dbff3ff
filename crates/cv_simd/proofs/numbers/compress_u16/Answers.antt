use Rattle.std.proofs.Common.{w16}
use Rattle.std.proofs.lemmas.Simd.{below_from_Fits}
use Rattle.cv_simd.proofs.CompressedNumbers.{kept_prefix, kept_all, row_ok}
use Rattle.cv_simd.proofs.numbers.compress_u16.Goals as goal

pub swizzle-bytes : goal.swizzle-bytes
swizzle-bytes c = row_ok c.args.mask c.requires

pub returns-clause-prefix : goal.returns-clause-prefix
returns-clause-prefix c = kept_prefix c.args.numbers c.args.mask c.requires
    (below_from_Fits w16 c.args.numbers c.fits-numbers.1) c.fits-numbers.0

pub returns-clause-all : goal.returns-clause-all
returns-clause-all c = kept_all c.args.numbers c.args.mask c.requires
    (below_from_Fits w16 c.args.numbers c.fits-numbers.1) c.fits-numbers.0
