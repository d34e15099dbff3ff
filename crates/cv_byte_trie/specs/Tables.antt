-- How the edges of a node are stored: as one edge, as a block with room for a few, or as a table of 256.
use Rattle.std.specs.Prelude.{◌==◌, ℕ, zero, suc, ◌+◌, ◌*◌, List, length, slice_index_or, if◌then◌else◌}
use Rattle.cv_byte_trie.specs.Tries.{none}
use Rattle.cv_byte_trie.specs.declared.node.Edge.{Edge}
use Rattle.cv_byte_trie.specs.declared.node.Node.{Node}
use Rattle.cv_byte_trie.specs.declared.node.Node.TheVariants.{One, Few, Table}
use Rattle.cv_byte_trie.specs.declared.steps.Steps.{Steps}

-- how many nodes a trie has
abbrev pub node_count : Steps → ℕ
node_count t = length t.nodes.items

-- how many edges its blocks have room for
abbrev pub edge_count : Steps → ℕ
edge_count t = length t.edges.items

-- how many codes its tables have
abbrev pub code_count : Steps → ℕ
code_count t = length t.tables.items

-- a node of a trie
abbrev pub node_at : Steps → ℕ → Node
node_at t n = slice_index_or t.nodes.items n (Table 0)

-- the edge at an index of the blocks; the byte of a free edge is 256
abbrev pub edge_in : List Edge → ℕ → Edge
edge_in edges k = slice_index_or edges k (record { byte = 256; code = none })

-- the code to which a byte leads by a block of `size` edges from index `start` on: that of the last edge with this byte
abbrev pub coded : List Edge → (start size b : ℕ) → ℕ
coded edges start zero b = none
coded edges start (suc size) b =
    if (edge_in edges (start + size)).byte == b then (edge_in edges (start + size)).code else coded edges start size b

-- the code to which a byte leads from the node `n`, by how the node stores its edges
abbrev pub edge_at : Steps → ℕ → ℕ → Node → ℕ
edge_at t n b (One byte code) = if b == byte then code else none
edge_at t n b (Few size start) = coded t.edges.items start size b
edge_at t n b (Table number) = slice_index_or t.tables.items (number * 256 + b) none

-- the code to which a byte leads from a node
abbrev pub edge_of : Steps → ℕ → ℕ → ℕ
edge_of t n b = edge_at t n b (node_at t n)
