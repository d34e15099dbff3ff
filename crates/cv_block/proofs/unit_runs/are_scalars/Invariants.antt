use Rattle.std.specs.Prelude.{IsTrue}
use Rattle.cv_block.specs.Units.{AreScalarsBelow}
use Rattle.cv_block.proofs.unit_runs.are_scalars.Given as goal

abbrev pub invariant-loop-k : goal.invariant-loop-k
invariant-loop-k l = IsTrue l.all → AreScalarsBelow l.numbers l.k
