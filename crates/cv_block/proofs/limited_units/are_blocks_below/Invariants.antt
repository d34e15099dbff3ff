use Rattle.std.proofs.Common.{◌≡◌, ◌*◌}
use Rattle.std.specs.Prelude.{IsTrue}
use Rattle.cv_base.specs.Units.{unit_size}
use Rattle.cv_block.specs.AsciiRuns.{IsRunBelow}
use Rattle.cv_block.proofs.limited_units.are_blocks_below.Given as goal

abbrev pub invariant-loop-block : goal.invariant-loop-block
invariant-loop-block g l = record {
  index : l.index ≡ unit_size g.U.Unit.form * (16 * l._block);
  small : IsTrue l.all → IsRunBelow g.R.CodeLimit.limit g.U.Unit.form l.units (16 * l._block);
}
