use Rattle.std.proofs.Common.{◌≡◌, length, take, drop}
use Rattle.cv_block.specs.Units.{AreScalarsBelow}
use Rattle.cv_block.proofs.unit_runs.values_of.Given as goal

abbrev pub invariant-loop-k : goal.invariant-loop-k
invariant-loop-k l = record {
  long : length l.values ≡ 16;
  stand : take l.k l.values ≡ take l.k (drop l.n l.characters);
  scalars : AreScalarsBelow l.values l.k;
}
