use Rattle.std.proofs.Common.{length, ◌-◌}
use Rattle.cv_utf7.specs.Private.WriteSteps.{written_to, WritesOn}
use Rattle.cv_utf7.proofs.blocks.Utf7BlockCodec.write_block.Given as goal

abbrev pub invariant-loop-reached : goal.invariant-loop-reached
invariant-loop-reached l = WritesOn l.characters (written_to l.fn.state 0 l.at) l.fn.out l.reached l.out

abbrev pub decreases-loop-reached : goal.decreases-loop-reached
decreases-loop-reached l = length l.characters - l.reached.n
