-- How the edges of a trie change.
use Rattle.std.specs.Prelude.{◌≡◌, ◌≢◌, ℕ, ◌+◌, ◌-◌, ◌<◌, ◌==◌, List, length, slice_index_or, if◌then◌else◌}
use Rattle.cv_byte_trie.specs.Tries.{none, node_code, tail_code}
use Rattle.cv_byte_trie.specs.Tables.{node_at, edge_of}
use Rattle.cv_byte_trie.specs.declared.node.Node.TheVariants.{One}
use Rattle.cv_byte_trie.specs.declared.steps.Steps.{Steps}

-- One edge is set, and all others stay.
pub record SetsEdge (old new : Steps) (n b code : ℕ) : Type 0 where
  pub set : edge_of new n b ≡ code
  pub same : (m c : ℕ) → m < length old.nodes.items → c < 256 → ((m ≡ n) × (c ≡ b) → ⊥)
      → edge_of new m c ≡ edge_of old m c

-- All edges stay.
abbrev pub SameEdges : Steps → Steps → Type 0
SameEdges old new = (n b : ℕ) → n < length old.nodes.items → b < 256 → edge_of new n b ≡ edge_of old n b

-- Nothing was added, removed or written.
pub record IsUnchanged (old new : Steps) : Type 0 where
  pub nodes : new.nodes.items ≡ old.nodes.items
  pub edges : new.edges.items ≡ old.edges.items
  pub tables : new.tables.items ≡ old.tables.items

-- the code for the edge of the byte at `depth` to the entry at `index`, which has `size` bytes
abbrev pub end_code : (size depth index : ℕ) → ℕ
end_code size depth index = if size == depth + 1 then index else tail_code index

-- the code that leads over the last `j` bytes of a chain to `code`, if the numbers of the chain's nodes begin at
-- `count`
abbrev pub code_behind : ℕ → ℕ → ℕ → ℕ
code_behind code count j = if j == 0 then code else node_code (count + j - 1)

-- New nodes lead over bytes to a code. There is one for each byte, and that of the last byte comes first.
pub record LeadsOver (old new : Steps) (bytes : List ℕ) (code : ℕ) : Type 0 where
  pub count : length new.nodes.items ≡ length old.nodes.items + length bytes
  pub same : (n : ℕ) → n < length old.nodes.items → node_at new n ≡ node_at old n
  pub chain : (j : ℕ) → j < length bytes → node_at new (length old.nodes.items + j)
      ≡ One (slice_index_or bytes (length bytes - 1 - j) 0) (code_behind code (length old.nodes.items) j)

-- New nodes lead over bytes to a code. That of the last byte also leads by the byte `other_byte` to the code
-- `other_code`. There are no other edges.
pub record Branches (old new : Steps) (bytes : List ℕ) (code other_byte other_code : ℕ) : Type 0 where
  pub count : length new.nodes.items ≡ length old.nodes.items + length bytes
  pub on : (j : ℕ) → j < length bytes → slice_index_or bytes (length bytes - 1 - j) 0 < 256
      → edge_of new (length old.nodes.items + j) (slice_index_or bytes (length bytes - 1 - j) 0)
      ≡ code_behind code (length old.nodes.items) j
  pub fork : edge_of new (length old.nodes.items) other_byte ≡ other_code
  pub off : (j c : ℕ) → j < length bytes → c < 256 → c ≢ slice_index_or bytes (length bytes - 1 - j) 0
      → ((j ≡ 0) × (c ≡ other_byte) → ⊥) → edge_of new (length old.nodes.items + j) c ≡ none

-- A byte of a node leads to the chain of the new nodes. All other edges stay.
pub record Splits (old new : Steps) (n b : ℕ) (bytes : List ℕ) (code other_byte other_code : ℕ) : Type 0 where
  pub branches : Branches old new bytes code other_byte other_code
  pub set : edge_of new n b ≡ code_behind code (length old.nodes.items) (length bytes)
  pub same : (m c : ℕ) → m < length old.nodes.items → c < 256 → ((m ≡ n) × (c ≡ b) → ⊥)
      → edge_of new m c ≡ edge_of old m c
