use Rattle.std.proofs.Common.{length, ◌-◌}
use Rattle.cv_base.specs.declared.state.ReadState.TheVariants as read
use Rattle.cv_utf7.specs.Private.ReadSteps.{read_to, ReadsOn}
use Rattle.cv_utf7.proofs.read.sequences.read_inside.Given as goal

abbrev pub invariant-loop-count : goal.invariant-loop-count
invariant-loop-count l = ReadsOn l.input (read_to (read.Shifted l.fn.pending) l.used l.n) l.fn.buffer
    (read_to (read.Shifted l.bits) l.at l.count) l.buffer

abbrev pub decreases-loop-count : goal.decreases-loop-count
decreases-loop-count l = length l.input - l.at
