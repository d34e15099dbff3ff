use Rattle.std.proofs.Common.{length, ◌-◌, ◌≤◌}
use Rattle.cv_base.specs.declared.state.WriteState.TheVariants as write
use Rattle.cv_utf7.specs.Private.WriteSteps.{written_to, WritesOn}
use Rattle.cv_utf7.proofs.write.blocks.write_outside.Given as goal

abbrev pub invariant-loop-n : goal.invariant-loop-n
invariant-loop-n l = record {
  wrote : WritesOn l.characters (written_to write.Start l.from l.at) l.fn.out (written_to write.Start l.n l.end) l.out;
  on : l.from ≤ l.n;
}

abbrev pub decreases-loop-n : goal.decreases-loop-n
decreases-loop-n l = length l.characters - l.n
