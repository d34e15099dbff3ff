use Rattle.std.proofs.Common.{◌≡◌, ℕ, ◌+◌, ◌-◌, ◌<◌, ◌≤◌, ◌++◌, true, get_or, take, drop}
use Rattle.cv_utf7.specs.Sets.{may_be_direct}
use Rattle.cv_utf7.proofs.read.runs.read_direct.Given as goal

abbrev pub invariant-loop-run : goal.invariant-loop-run
invariant-loop-run l = record {
  most : l.run ≤ l.most;
  direct : (i : ℕ) → i < l.run → may_be_direct (get_or l.input (l.used + i) 0) ≡ true;
  stand : take (l.n + l.run) l.buffer ≡ take l.n l.fn.buffer ++ take l.run (drop l.used l.input);
}

abbrev pub decreases-loop-run : goal.decreases-loop-run
decreases-loop-run l = l.most - l.run
