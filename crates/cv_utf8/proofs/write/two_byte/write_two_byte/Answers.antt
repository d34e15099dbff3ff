use Rattle.std.proofs.Common.{arith}
use Rattle.cv_utf8.specs.Private.TwoByte.{has_two}
use Rattle.cv_utf8.proofs.Utf8Pairs.{first_pairs, last_pairs}
use Rattle.cv_utf8.proofs.Utf8Sizes.{twos_are, mask_lt}
use Rattle.cv_utf8.proofs.write.two_byte.write_two_byte.Goals as goal

pub put_pairs-requires-clause-mask : goal.put_pairs-requires-clause-mask
put_pairs-requires-clause-mask c =
    rw (twos_are c.args.units (omega arith)) (mask_lt has_two c.args.units (omega arith))

pub returns-clause-put : goal.returns-clause-put
returns-clause-put c = c.put_pairs.ensures.put c.args.units (omega arith) (twos_are c.args.units (omega arith))
    (first_pairs c.args.units (omega arith) c.requires.short) (last_pairs c.args.units (omega arith) c.requires.short)
