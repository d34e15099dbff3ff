use Rattle.std.proofs.Common.{ℕ, ◌≤◌, ◌<◌, length}
use Rattle.cv_byte_trie.specs.Entries.{bytes_at}
use Rattle.cv_trie.proofs.longest.longest.Given as goal

abbrev pub invariant-loop-index : goal.invariant-loop-index
invariant-loop-index l = record {
  few : l.most ≤ 8;
  each : (k : ℕ) → k < l.index → length (bytes_at l.entries k) ≤ l.most;
}
