use Rattle.std.proofs.Common.{ℕ, ◌≡◌, ◌<◌, ◌+◌, ◌*◌}
use Rattle.cv_base.specs.Units.{unit_size}
use Rattle.cv_block.specs.AsciiRuns.{IsBelowAt}
use Rattle.cv_block.proofs.limited_units.any_bits_below.Given as goal

abbrev pub invariant-loop-unit : goal.invariant-loop-unit
invariant-loop-unit g l = record {
  index : l.index ≡ l.at + unit_size g.U.Unit.form * l._unit;
  small : (k : ℕ) → k < l._unit → IsBelowAt (l.any_bits + 1) g.U.Unit.form l.bytes (l.at + unit_size g.U.Unit.form * k);
}
