use Rattle.std.specs.Prelude.{IsTrue}
use Rattle.cv_block.specs.Units.{AreSingle}
use Rattle.cv_block.proofs.unit_runs.are_single.Given as goal

abbrev pub invariant-loop-k : goal.invariant-loop-k
invariant-loop-k g l = IsTrue l.all → AreSingle g.U.Unit.form l.values l.k
