use Rattle.std.proofs.Common.{length, ◌-◌, ◌≢◌, ◌≤◌, ◌<◌, ℕ, get_or}
use Rattle.cv_lex.proofs.feeds.feed_at.Given as goal

abbrev pub invariant-loop-n : goal.invariant-loop-n
invariant-loop-n l = record {
  within : l.n ≤ length l.text;
  none : (k : ℕ) → k < l.n → get_or l.text k 0 ≢ 10;
}

abbrev pub decreases-loop-n : goal.decreases-loop-n
decreases-loop-n l = length l.text - l.n
