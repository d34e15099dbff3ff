use Rattle.std.proofs.Common.{◌≡◌, ◌*◌, length}
use Rattle.cv_base.specs.Units.{unit_size}
use Rattle.cv_block.specs.Units.{AreUnits}
use Rattle.cv_block.proofs.unit_runs.numbers_of.Given as goal

abbrev pub invariant-loop-k : goal.invariant-loop-k
invariant-loop-k g l = record {
  index : l.at ≡ unit_size g.U.Unit.form * l.k;
  long : length l.numbers ≡ 16;
  units : AreUnits g.U.Unit.form l.text l.numbers l.k;
}
