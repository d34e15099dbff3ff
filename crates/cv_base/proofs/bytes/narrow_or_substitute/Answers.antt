use Rattle.std.proofs.Common.{arith}
use Rattle.cv_base.proofs.NarrowSteps.{one_byte_more}
use Rattle.cv_base.proofs.bytes.narrow_or_substitute.Goals as goal

pub loop-k-preserved : goal.loop-k-preserved
loop-k-preserved c = one_byte_more c.args.limit c.args.characters.now c.args.out.now c.args.at c.loop-k.k c.loop-k.count
    c.loop-k.out c.loop-k.invariant c.loop-k-test.true (omega arith) c.index-characters-k.result c.byte_of-byte.result.0
    c.byte_of-byte.result.1 c.index-characters-k.is c.byte_of-byte.ensures.is
