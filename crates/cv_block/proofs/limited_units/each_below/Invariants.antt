use Rattle.std.proofs.Common.{ℕ, ◌≡◌, ◌<◌, ◌+◌, ◌*◌}
use Rattle.std.specs.Prelude.{IsTrue}
use Rattle.cv_base.specs.Units.{unit_size}
use Rattle.cv_block.specs.AsciiRuns.{IsBelowAt}
use Rattle.cv_block.proofs.limited_units.each_below.Given as goal

abbrev pub invariant-loop-unit : goal.invariant-loop-unit
invariant-loop-unit g l = record {
  index : l.index ≡ l.at + unit_size g.U.Unit.form * l._unit;
  small : IsTrue l.all → (k : ℕ) → k < l._unit
      → IsBelowAt g.R.CodeLimit.limit g.U.Unit.form l.bytes (l.at + unit_size g.U.Unit.form * k);
}
