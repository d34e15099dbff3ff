use Rattle.std.proofs.Common.{◌≡◌, ◌<◌, ◌≤◌, ◌+◌, ◌-◌, ℕ}
use Rattle.cv_byte_trie.specs.Tries.{none}
use Rattle.cv_byte_trie.specs.Tables.{edge_of}
use Rattle.cv_byte_trie.proofs.steps.Steps.free_from.Given as goal

abbrev pub invariant-loop-free : goal.invariant-loop-free
invariant-loop-free l = record {
  few : l.free ≤ l.most;
  none : (b : ℕ) → l.byte ≤ b → b < l.byte + l.free → edge_of l.self l.node b ≡ none;
}

abbrev pub decreases-loop-free : goal.decreases-loop-free
decreases-loop-free l = l.most - l.free
