use Rattle.std.proofs.Common.{refl}
use Rattle.cv_base.specs.declared.state.ReadState.TheVariants as read
use Rattle.cv_utf7.proofs.ReadSteps.{reads_more, reads_to}
use Rattle.cv_utf7.proofs.read.blocks.read_outside.Goals as goal

pub loop-buffer-preserved-then-input-used-ne43 : goal.loop-buffer-preserved-then-input-used-ne43
loop-buffer-preserved-then-input-used-ne43 c = reads_more c.loop-buffer.invariant c.read_run-run.ensures.run

pub loop-buffer-preserved : goal.loop-buffer-preserved
loop-buffer-preserved c = reads_to
    (reads_more c.loop-buffer.invariant c.read_sequence-block.ensures.more) read.Start _ _ c.in-Start.is refl refl

pub returns-in_default : goal.returns-in_default
returns-in_default c = reads_more c.loop-buffer.invariant c.read_sequence-block.ensures.more

pub returns-in_default-2 : goal.returns-in_default-2
returns-in_default-2 c = reads_more c.loop-buffer.invariant c.read_sequence-block.ensures.more

pub returns : goal.returns
returns c = reads_more c.loop-buffer.invariant c.read_direct-run.ensures
