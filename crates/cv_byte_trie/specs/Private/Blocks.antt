-- Looking for an edge in a block.
use Rattle.std.specs.Prelude.{◌≡◌, ◌≢◌, ℕ, ◌+◌, ◌<◌, List, Option, Some, None}
use Rattle.cv_byte_trie.specs.Tables.{edge_in}
use Rattle.cv_byte_trie.specs.declared.node.Edge.{Edge}

-- The index of an edge with a byte, in the block of `size` edges from `start` on. If there is no index, no edge has the
-- byte.
abbrev pub FindsEdge : List Edge → (start size byte : ℕ) → Option ℕ → Type 0
FindsEdge edges start size byte (Some at) = (at < size) × ((edge_in edges (start + at)).byte ≡ byte)
FindsEdge edges start size byte None = (k : ℕ) → k < size → (edge_in edges (start + k)).byte ≢ byte
