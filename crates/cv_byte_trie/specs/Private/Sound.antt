-- The invariant of the nodes, blocks and tables of a trie.
use Rattle.std.specs.Prelude.{◌≡◌, ◌≢◌, ℕ, ◌+◌, ◌*◌, ◌/◌, ◌<◌, ◌≤◌, length}
use Rattle.cv_byte_trie.specs.Tries.{none}
use Rattle.cv_byte_trie.specs.Tables.{node_at, edge_in}
use Rattle.cv_byte_trie.specs.declared.node.Node.TheVariants.{One, Few, Table}
use Rattle.cv_byte_trie.specs.declared.steps.Steps.{Steps}

-- No two nodes share a table or a part of a block, and a block has each byte once at most.
pub record IsSound (t : Steps) : Type 0 where
  pub some : 0 < length t.nodes.items
  pub root : node_at t 0 ≡ Table 0
  -- tables are complete, and each belongs to one node at most
  pub full : length t.tables.items / 256 * 256 ≡ length t.tables.items
  pub whole : (n k : ℕ) → n < length t.nodes.items → node_at t n ≡ Table k → k * 256 + 256 ≤ length t.tables.items
  pub apart : (m n k : ℕ) → m < length t.nodes.items → n < length t.nodes.items → node_at t m ≡ Table k
      → node_at t n ≡ Table k → m ≡ n
  -- blocks are within the edges, and each edge belongs to the block of one node at most
  pub filled : (n size start : ℕ) → n < length t.nodes.items → node_at t n ≡ Few size start → 0 < size
  pub small : (n size start : ℕ) → n < length t.nodes.items → node_at t n ≡ Few size start → size ≤ 32
  pub within : (n size start : ℕ) → n < length t.nodes.items → node_at t n ≡ Few size start
      → start + size ≤ length t.edges.items
  pub own : (m n size start width from k : ℕ) → m < length t.nodes.items → n < length t.nodes.items → node_at t m ≡ Few
      size start → node_at t n ≡ Few width from → start ≤ k → k < start + size → from ≤ k → k < from + width → m ≡ n
  -- no two edges of a block have the same byte, unless they are free
  pub once : (n size start j k : ℕ) → n < length t.nodes.items → node_at t n ≡ Few size start
      → j < size → k < size → (edge_in t.edges.items (start + j)).byte ≡ (edge_in t.edges.items (start + k)).byte
      → (edge_in t.edges.items (start + k)).byte < 256 → j ≡ k
  -- no edge leads nowhere
  pub led_one : (n b code : ℕ) → n < length t.nodes.items → node_at t n ≡ One b code → code ≢ none
  pub led : (n size start k : ℕ) → n < length t.nodes.items → node_at t n ≡ Few size start → k < size
      → (edge_in t.edges.items (start + k)).byte < 256 → (edge_in t.edges.items (start + k)).code ≢ none
