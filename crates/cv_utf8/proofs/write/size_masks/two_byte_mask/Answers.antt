use Rattle.std.proofs.Common.{arith}
use Rattle.cv_utf8.specs.Private.TwoByte.{has_two}
use Rattle.cv_utf8.proofs.Utf8Sizes.{twos_are, mask_lt}
use Rattle.cv_utf8.proofs.write.size_masks.two_byte_mask.Goals as goal

pub returns-clause-few : goal.returns-clause-few
returns-clause-few c = rw (twos_are c.args.units (omega arith)) (mask_lt has_two c.args.units (omega arith))

pub returns-clause-bits : goal.returns-clause-bits
returns-clause-bits c = twos_are c.args.units (omega arith)
