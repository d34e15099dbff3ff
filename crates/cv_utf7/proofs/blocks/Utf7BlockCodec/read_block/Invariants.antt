use Rattle.std.proofs.Common.{length, ◌-◌}
use Rattle.cv_utf7.specs.Private.ReadSteps.{read_to, ReadsOn}
use Rattle.cv_utf7.proofs.blocks.Utf7BlockCodec.read_block.Given as goal

abbrev pub invariant-loop-run : goal.invariant-loop-run
invariant-loop-run l = ReadsOn l.input (read_to l.fn.state 0 0) l.initial.buffer l.block l.buffer

abbrev pub decreases-loop-run : goal.decreases-loop-run
decreases-loop-run l = length l.input - l.block.used
