use Rattle.std.proofs.Common.{ℕ, List, Result}
use Rattle.cv_caller.specs.Tables.{Table}
use Rattle.cv_world.specs.Private.Replying.{Answers}
use Rattle.cv_world.specs.Worlds.{world_tables}
use Rattle.cv_world.specs.declared.serving.Small.{Small}
use Rattle.cv_world.specs.declared.stages.ConvOutcome.{ConvOutcome}
use Rattle.cv_world.proofs.world.World.attempt_twice.Given as goal

-- What answers the request now answers it as if it had not been tried before.
abbrev pub invariant-loop-number : goal.invariant-loop-number
invariant-loop-number g l = record {
  answers : (next : ℕ → Table) (after : List ℕ) (result : Result ConvOutcome Small) → Answers (world_tables l.self) next
      l.fn.request l.output after result → Answers (world_tables l.fn.self) next l.fn.request l.fn.output after result;
}

abbrev pub decreases-loop-number : goal.decreases-loop-number
decreases-loop-number g l = l.retries_left
