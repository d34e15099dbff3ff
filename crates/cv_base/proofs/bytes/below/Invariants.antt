use Rattle.std.proofs.Common.{ℕ, ◌≤◌, ◌<◌, ◌-◌, get_or}
use Rattle.cv_base.proofs.bytes.below.Given as goal

abbrev pub invariant-loop-n : goal.invariant-loop-n
invariant-loop-n l = record { within : l.n ≤ l.most; below : (k : ℕ) → k < l.n → get_or l.input k 0 < l.limit }

abbrev pub decreases-loop-n : goal.decreases-loop-n
decreases-loop-n l = l.most - l.n
