use Rattle.std.proofs.Common.{◌≡◌, ℕ, ◌<◌, ◌≤◌, ◌-◌, ◌==◌, false, get_or, length}
use Rattle.cv_commands.proofs.ends.past_long_blocks.Given as goal

-- none of the bytes so far is `byte`
abbrev pub invariant-loop-n : goal.invariant-loop-n
invariant-loop-n l = record {
  from : l.at ≤ l.n;
  within : l.n ≤ length l.text;
  none : (k : ℕ) → l.at ≤ k → k < l.n → (get_or l.text k 0 == l.byte) ≡ false;
}

abbrev pub decreases-loop-n : goal.decreases-loop-n
decreases-loop-n l = length l.text - l.n
