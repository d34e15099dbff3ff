use Rattle.std.proofs.Common.{◌≡◌, ◌+◌, ◌*◌}
use Rattle.cv_base.specs.Units.{unit_size}
use Rattle.cv_block.proofs.AsciiRuns.{put_run}
use Rattle.cv_block.proofs.unit_blocks.write_blocks.Given as goal

abbrev pub invariant-loop-block : goal.invariant-loop-block
invariant-loop-block g l = record {
  index : l.used ≡ unit_size g.From.Unit.form * (16 * l._block);
  end : l.end ≡ l.at + unit_size g.To.Unit.form * (16 * l._block);
  put : l.out ≡ put_run g.From.Unit.form g.To.Unit.form l.units l.fn.out l.at (16 * l._block);
}
