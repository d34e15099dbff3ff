-- The invariant of a byte trie.
use Rattle.std.specs.Prelude.{◌+◌, ◌*◌, ◌≤◌, List, length}
use Rattle.cv_byte_trie.specs.Entries.{Entry, AreEntries}
use Rattle.cv_byte_trie.specs.Tries.{HasTrie}
use Rattle.cv_byte_trie.specs.Tables.{edge_of}
use Rattle.cv_byte_trie.specs.Private.Sound.{IsSound}
use Rattle.cv_byte_trie.specs.declared.steps.Steps.{Steps}

-- Entries and the steps of their trie. The number of entries bounds those of the nodes, of the edges and of the codes
-- in tables, so that each has an index.
pub record IsIndexed (entries : List Entry) (steps : Steps) : Type 0 where
  pub apart : AreEntries entries
  pub sound : IsSound steps
  pub leads : HasTrie (edge_of steps) (length steps.nodes.items) entries
  pub few : length entries ≤ 16777216
  pub nodes : length steps.nodes.items ≤ 8 * length entries + 1
  pub edges : length steps.edges.items ≤ 32 * length entries
  pub tables : length steps.tables.items ≤ 256 * (length entries + 1)
