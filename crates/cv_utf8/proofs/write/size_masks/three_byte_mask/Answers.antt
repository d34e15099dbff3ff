use Rattle.std.proofs.Common.{arith}
use Rattle.cv_utf8.specs.Private.ThreeByte.{has_three}
use Rattle.cv_utf8.proofs.Utf8Sizes.{threes_are, mask_lt}
use Rattle.cv_utf8.proofs.write.size_masks.three_byte_mask.Goals as goal

pub returns-clause-few : goal.returns-clause-few
returns-clause-few c = rw (threes_are c.args.units (omega arith)) (mask_lt has_three c.args.units (omega arith))

pub returns-clause-bits : goal.returns-clause-bits
returns-clause-bits c = threes_are c.args.units (omega arith)
