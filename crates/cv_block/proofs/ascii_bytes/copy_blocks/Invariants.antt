use Rattle.std.proofs.Common.{ℕ, ◌≡◌, ◌≤◌, ◌<◌, ◌-◌, get_or}
use Rattle.cv_block.proofs.CopiedBytes.{copied}
use Rattle.cv_block.proofs.ascii_bytes.copy_blocks.Given as goal

abbrev pub invariant-loop-n : goal.invariant-loop-n
invariant-loop-n o l = record {
  within : l.n ≤ l.most;
  ascii : (k : ℕ) → k < l.n → get_or l.rest k 0 < 128;
  out : l.out ≡ copied l.rest l.fn.out l.at l.n;
}

abbrev pub decreases-loop-n : goal.decreases-loop-n
decreases-loop-n o l = l.most - l.n
