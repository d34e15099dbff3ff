use Rattle.std.proofs.Common.{length, ◌+◌, ◌-◌}
use Rattle.cv_base.specs.declared.state.WriteState.TheVariants as write
use Rattle.cv_utf7.specs.Private.WriteSteps.{written_to, WritesOn}
use Rattle.cv_utf7.proofs.write.runs.write_direct.Given as goal

abbrev pub invariant-loop-run : goal.invariant-loop-run
invariant-loop-run l = WritesOn l.characters (written_to write.Start l.n l.at) l.fn.out
    (written_to write.Start (l.n + l.run) (l.at + l.run)) l.out

abbrev pub decreases-loop-run : goal.decreases-loop-run
decreases-loop-run l = length l.characters - (l.n + l.run)
