use Rattle.std.proofs.Common.{w16}
use Rattle.std.proofs.lemmas.Simd.{below_from_Fits}
use Rattle.cv_utf7.proofs.ValueBits.{units_values, digits_units, small_values}
use Rattle.cv_utf7.proofs.write.digit_lanes.sixteen_digits.Goals as goal

pub digits_for-requires : goal.digits_for-requires
digits_for-requires c = small_values c.args.units c.pairs_of.result c.values_of.result
    (units_values c.args.units c.fits-units.0 (below_from_Fits w16 c.args.units c.fits-units.1))
    c.pairs_of.ensures c.values_of.ensures

pub returns : goal.returns
returns c = digits_units c.args.units c.pairs_of.result c.values_of.result c.digits_for.result
    (units_values c.args.units c.fits-units.0 (below_from_Fits w16 c.args.units c.fits-units.1))
    c.pairs_of.ensures c.values_of.ensures c.digits_for.ensures
