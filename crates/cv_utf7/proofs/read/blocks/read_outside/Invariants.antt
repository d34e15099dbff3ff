use Rattle.std.proofs.Common.{length, ◌-◌}
use Rattle.cv_base.specs.declared.state.ReadState.TheVariants as read
use Rattle.cv_utf7.specs.Private.ReadSteps.{read_to, ReadsOn}
use Rattle.cv_utf7.proofs.read.blocks.read_outside.Given as goal

abbrev pub invariant-loop-buffer : goal.invariant-loop-buffer
invariant-loop-buffer l =
    ReadsOn l.input (read_to read.Start l.start l.fn.n) l.fn.buffer (read_to read.Start l.used l.count) l.buffer

abbrev pub decreases-loop-buffer : goal.decreases-loop-buffer
decreases-loop-buffer l = length l.input - l.used
