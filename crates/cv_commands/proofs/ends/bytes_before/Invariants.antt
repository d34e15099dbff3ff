use Rattle.std.proofs.Common.{◌≡◌, ℕ, ◌<◌, ◌≤◌, ◌-◌, ◌==◌, false, get_or, length}
use Rattle.cv_commands.proofs.ends.bytes_before.Given as goal

-- none of the bytes so far is `byte`
abbrev pub invariant-loop-n : goal.invariant-loop-n
invariant-loop-n l = record {
  within : l.n ≤ length l.text;
  none : (k : ℕ) → k < l.n → (get_or l.text k 0 == l.byte) ≡ false;
}

abbrev pub decreases-loop-n : goal.decreases-loop-n
decreases-loop-n l = length l.text - l.n

abbrev pub invariant-loop-n-2 : goal.invariant-loop-n-2
invariant-loop-n-2 l = record {
  within : l.n ≤ length l.text;
  none : (k : ℕ) → k < l.n → (get_or l.text k 0 == l.byte) ≡ false;
}

abbrev pub decreases-loop-n-2 : goal.decreases-loop-n-2
decreases-loop-n-2 l = length l.text - l.n
