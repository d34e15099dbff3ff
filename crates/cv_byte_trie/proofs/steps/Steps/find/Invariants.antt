use Rattle.std.proofs.Common.{◌≢◌, ◌<◌, ◌+◌, ℕ}
use Rattle.cv_byte_trie.specs.Tables.{edge_in}
use Rattle.cv_byte_trie.proofs.steps.Steps.find.Given as goal

abbrev pub invariant-loop-at : goal.invariant-loop-at
invariant-loop-at l = (k : ℕ) → k < l.at → (edge_in l.self.edges.items (l.start + k)).byte ≢ l.sought
