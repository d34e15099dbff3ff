use Rattle.std.proofs.Common.{◌≤◌, ◌-◌, length, drop}
use Rattle.cv_byte_trie.specs.Tables.{edge_of}
use Rattle.cv_trie.specs.Private.Followed.{IsFollowed}
use Rattle.cv_trie.proofs.reading.follow.Given as goal

abbrev pub invariant-loop-code : goal.invariant-loop-code
invariant-loop-code l = record {
  follows : IsFollowed (edge_of l.trie.steps) (length l.trie.steps.nodes.items) l.trie.entries
      (drop l.used l.input) l.size l.code;
  within : l.size ≤ length (drop l.used l.input);
}

abbrev pub decreases-loop-code : goal.decreases-loop-code
decreases-loop-code l = length (drop l.used l.input) - l.size
