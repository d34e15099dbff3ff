use Rattle.std.proofs.Common.{◌≡◌, ◌<◌, ℕ, length, get_or}
use Rattle.cv_byte_trie.specs.Tries.{none}
use Rattle.cv_byte_trie.specs.Tables.{coded}
use Rattle.cv_byte_trie.proofs.steps.Steps.table_of.Given as goal

abbrev pub invariant-loop-at : goal.invariant-loop-at
invariant-loop-at l = record {
  filled : (b : ℕ) → b < 256 → get_or l.table b none ≡ coded l.self.edges.items l.start l.at b;
  size : length l.table ≡ 256;
}
