use Rattle.std.proofs.Common.{arith, w16}
use Rattle.std.proofs.lemmas.Simd.{below_from_Fits}
use Rattle.cv_utf7.proofs.SurrogateLanes.{no_surrogate, unit_scalar}
use Rattle.cv_utf7.proofs.read.sixteen_digits.put_units.Goals as goal

pub known-requires : goal.known-requires
known-requires c = unit_scalar c.args.units c.loop-i.i c.fits-units.0 (below_from_Fits w16 c.args.units c.fits-units.1)
    (omega arith) (no_surrogate c.args.units c.fits-units.0 c.if-parts-ne0.false c.loop-i.i (omega arith))
