use Rattle.std.proofs.Common.{ℕ, ◌≡◌, ◌≤◌, ◌<◌, ◌-◌, get_or}
use Rattle.cv_block.proofs.CopiedBytes.{copied}
use Rattle.cv_block.proofs.ascii_bytes.copy_ascii.Given as goal

abbrev pub invariant-loop-n : goal.invariant-loop-n
invariant-loop-n l = record {
  within : l.n ≤ l.most;
  ascii : (k : ℕ) → k < l.n → get_or l.rest k 0 < 128;
  out : l.out ≡ copied l.rest l.fn.out l.at l.n;
}

abbrev pub decreases-loop-n : goal.decreases-loop-n
decreases-loop-n l = l.most - l.n
