use Rattle.cv_utf7.proofs.WrittenDigits.{indexes_ok, digits_are}
use Rattle.cv_utf7.proofs.write.digit_lanes.digits_for.Goals as goal

pub swizzle : goal.swizzle
swizzle c = indexes_ok c.args.values c.indexes_of.result c.fits-values.0 c.indexes_of.ensures c.requires

pub returns : goal.returns
returns c = digits_are c.args.values c.indexes_of.result c.fits-values.0 c.indexes_of.ensures c.requires
