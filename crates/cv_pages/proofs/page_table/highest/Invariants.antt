use Rattle.std.proofs.Common.{ℕ, ◌≤◌, ◌<◌}
use Rattle.cv_byte_trie.specs.Entries.{character_at}
use Rattle.cv_pages.proofs.page_table.highest.Given as goal

abbrev pub invariant-loop-index : goal.invariant-loop-index
invariant-loop-index l = record {
  scalar : l.highest < 0x110000;
  each : (k : ℕ) → k < l.index → character_at l.entries k ≤ l.highest;
}
