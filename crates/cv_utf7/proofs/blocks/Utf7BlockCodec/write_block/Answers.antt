use Rattle.cv_utf7.proofs.WriteSteps.{writes_more}
use Rattle.cv_utf7.proofs.blocks.Utf7BlockCodec.write_block.Goals as goal

pub loop-reached-preserved : goal.loop-reached-preserved
loop-reached-preserved c = writes_more c.loop-reached.invariant c.write_on-reached.ensures.more
