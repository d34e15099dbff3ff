use Rattle.std.proofs.Common.{ℕ, ◌+◌, ◌<◌, ◌≤◌, get_or}
use Rattle.cv_utf8.proofs.stateless_utf8.StatelessUtf8StatelessForm.write_many.Given as goal

abbrev pub invariant-loop-lane : goal.invariant-loop-lane
invariant-loop-lane l = (k : ℕ) → k < l.lane → get_or l.characters (l.n + k) 0 ≤ l.any_bits
