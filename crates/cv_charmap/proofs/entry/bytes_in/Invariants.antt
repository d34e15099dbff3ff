use Rattle.std.proofs.Common.{◌≡◌, ◌≤◌, ◌++◌, length, take, drop}
use Rattle.cv_charmap.specs.Entries as spec
use Rattle.cv_charmap.proofs.entry.bytes_in.Given as goal

abbrev pub invariant-loop-k : goal.invariant-loop-k
invariant-loop-k l = record {
  low : l.k ≤ l.size;
  size : length l.bytes ≡ 8;
  so_far : spec.bytes_in l.size l.n ≡ spec.bytes_in l.k l.rest ++ drop l.k (take l.size l.bytes);
}

abbrev pub decreases-loop-k : goal.decreases-loop-k
decreases-loop-k l = l.k
