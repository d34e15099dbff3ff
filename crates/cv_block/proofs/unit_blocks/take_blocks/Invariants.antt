use Rattle.std.proofs.Common.{◌-◌, ◌≡◌, ◌≤◌, ◌+◌, ◌*◌}
use Rattle.cv_base.specs.Units.{unit_size}
use Rattle.cv_block.specs.AsciiRuns.{IsRunBelow}
use Rattle.cv_block.proofs.AsciiRuns.{put_run}
use Rattle.cv_block.proofs.unit_blocks.take_blocks.Given as goal

abbrev pub invariant-loop-n : goal.invariant-loop-n
invariant-loop-n g l = record {
  within : l.n ≤ l.most;
  index : l.used ≡ unit_size g.From.Unit.form * l.n;
  end : l.end ≡ l.at + unit_size g.To.Unit.form * l.n;
  small : IsRunBelow g.R.CodeLimit.limit g.From.Unit.form l.rest l.n;
  put : l.out ≡ put_run g.From.Unit.form g.To.Unit.form l.rest l.fn.out l.at l.n;
}

abbrev pub decreases-loop-n : goal.decreases-loop-n
decreases-loop-n g l = l.most - l.n
