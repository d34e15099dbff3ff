use Rattle.std.proofs.Common.{◌≡◌, ◌<◌, ◌≤◌, ◌+◌, ◌-◌, ◌++◌, ℕ, length, take}
use Rattle.cv_byte_trie.specs.Runs.{run_of}
use Rattle.cv_byte_trie.specs.Tries.{none, IsAt}
use Rattle.cv_byte_trie.specs.Tables.{edge_of}
use Rattle.cv_byte_trie.specs.Private.Indexed.{IsIndexed}
use Rattle.cv_byte_trie.proofs.running.enter_run.Given as goal

abbrev pub invariant-loop-added : goal.invariant-loop-added
invariant-loop-added l = record {
  few : l.added ≤ l.free;
  indexed : IsIndexed l.entries.items l.steps;
  run : l.entries.items ≡ l.initial.entries.items ++ run_of l.bytes l.character l.added;
  at : IsAt (edge_of l.steps) (length l.steps.nodes.items) l.entries.items l.bytes l.depth l.node;
  free : (b : ℕ) → l.last + l.added ≤ b → b < l.last + l.free → edge_of l.steps l.node b ≡ none;
  word : take l.depth l.word ≡ take l.depth l.bytes;
  size : length l.word ≡ 8;
}

abbrev pub decreases-loop-added : goal.decreases-loop-added
decreases-loop-added l = l.free - l.added
