use Rattle.std.proofs.Common.{w8, refl}
use Rattle.std.proofs.lemmas.Simd.{below_from_Fits}
use Rattle.cv_utf7.proofs.DigitLanes.{first_stays, other_zero}
use Rattle.cv_utf7.proofs.read.digit_bytes.first_values.Goals as goal

pub returns-clause-first : goal.returns-clause-first
returns-clause-first c i h = first_stays c.args.values c.args.n _ i c.fits-values.0
    (below_from_Fits w8 c.args.values c.fits-values.1) c.requires refl h

pub returns-clause-others : goal.returns-clause-others
returns-clause-others c i k h = other_zero c.args.values c.args.n _ i c.fits-values.0
    (below_from_Fits w8 c.args.values c.fits-values.1) c.requires refl k h
