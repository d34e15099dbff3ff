use Rattle.std.proofs.Common.{◌≢◌, ◌<◌, ◌≤◌, ◌+◌, ℕ}
use Rattle.cv_byte_trie.specs.Tables.{edge_in}
use Rattle.cv_byte_trie.proofs.steps.Steps.free_in.Given as goal

abbrev pub invariant-loop-at : goal.invariant-loop-at
invariant-loop-at l = record {
  few : l.free ≤ l.most;
  none : (b k : ℕ) → l.byte ≤ b → b < l.byte + l.free → k < l.at → (edge_in l.self.edges.items (l.start + k)).byte ≢ b;
}
