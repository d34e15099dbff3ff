use Rattle.std.proofs.Common.{◌<◌, arith, w16}
use Rattle.std.proofs.lemmas.Simd.{Each1-get_or, below_from_Fits}
use Rattle.cv_utf8.proofs.Utf8Threes.{numbers_long, number_at}
use Rattle.cv_utf8.proofs.read.three_byte.numbers_of.Goals as goal

pub returns-clause-long : goal.returns-clause-long
returns-clause-long c = numbers_long 8 c.args.fronts c.args.lasts c.fits-fronts.0 c.fits-lasts.0

pub returns-clause-numbers : goal.returns-clause-numbers
returns-clause-numbers c k h =
    number_at c.args.fronts c.args.lasts k c.fits-fronts.0 c.fits-lasts.0 (Each1-get_or (λ x. x < 0x10000) c.args.fronts
    k 0 (omega (arith, c.fits-fronts.0)) (below_from_Fits w16 c.args.fronts c.fits-fronts.1)) (c.requires k h) h
