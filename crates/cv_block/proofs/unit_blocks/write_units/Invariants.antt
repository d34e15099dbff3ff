use Rattle.std.proofs.Common.{◌≡◌, ◌+◌, ◌*◌}
use Rattle.cv_base.specs.Units.{unit_size}
use Rattle.cv_block.proofs.AsciiRuns.{put_run}
use Rattle.cv_block.proofs.unit_blocks.write_units.Given as goal

abbrev pub invariant-loop-unit : goal.invariant-loop-unit
invariant-loop-unit g l = record {
  index : l.used ≡ unit_size g.From.Unit.form * l._unit;
  end : l.end ≡ l.at + unit_size g.To.Unit.form * l._unit;
  put : l.out ≡ put_run g.From.Unit.form g.To.Unit.form l.rest l.fn.out l.at l._unit;
}
