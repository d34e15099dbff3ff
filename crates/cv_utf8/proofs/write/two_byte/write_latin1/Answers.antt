use Rattle.std.proofs.Common.{arith}
use Rattle.cv_utf8.specs.Private.TwoByte.{has_two}
use Rattle.cv_utf8.proofs.Utf8Sizes.{latin1_twos_are, mask_lt}
use Rattle.cv_utf8.proofs.write.two_byte.write_latin1.Goals as goal

pub put_pairs-requires-clause-mask : goal.put_pairs-requires-clause-mask
put_pairs-requires-clause-mask c =
    rw (latin1_twos_are c.args.characters (omega arith)) (mask_lt has_two c.args.characters (omega arith))

pub returns-clause-put : goal.returns-clause-put
returns-clause-put c = c.put_pairs.ensures.put c.args.characters (omega arith)
    (latin1_twos_are c.args.characters (omega arith)) c.latin1_pairs.ensures.first c.latin1_pairs.ensures.second
