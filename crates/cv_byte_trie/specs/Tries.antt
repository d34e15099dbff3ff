-- A trie over the byte strings of entries, with one step for each byte.
use Rattle.std.specs.Prelude.{◌≡◌, ◌≢◌, ℕ, ◌+◌, ◌<◌, List, [], ◌∷◌, ◌++◌, length}
use Rattle.cv_base.specs.Items.{Begins}
use Rattle.cv_byte_trie.specs.Entries.{Entry, bytes_at}
use Rattle.cv_byte_trie.specs.Results.{GoesOnBehind}

-- The code to which a byte leads from a node. A code below `tails` is the index of an entry that the byte completes. A
-- code from there to `none` is an entry too, which has bytes after this one. A code above `none` is a node.
abbrev pub StepsBy : Type 0
StepsBy = ℕ → ℕ → ℕ

-- the first code of an entry that has bytes after its edge's
abbrev pub tails : ℕ
tails = 0x40000000

-- the code of such an entry
abbrev pub tail_code : ℕ → ℕ
tail_code p = p + 0x40000000

-- the code of no edge
abbrev pub none : ℕ
none = 0x80000000

-- the code of a node
abbrev pub node_code : ℕ → ℕ
node_code n = n + 0x80000001

-- The bytes of the entry at an index begin with these and are longer, and those of no other entry begin with these.
pub record IsAlone (entries : List Entry) (bytes : List ℕ) (index : ℕ) : Type 0 where
  pub on : GoesOnBehind entries bytes index
  pub alone : (p : ℕ) → p < length entries → Begins bytes (bytes_at entries p) → p ≡ index

-- The steps between the nodes below `count` are a trie of the entries. Node 0 is the root. `way` gives the bytes that
-- lead from the root to each node.
pub record IsTrie (step : StepsBy) (way : ℕ → List ℕ) (count : ℕ) (entries : List Entry) : Type 0 where
  pub some : 0 < count
  pub root : way 0 ≡ []
  -- a byte that leads to a node is the last of the bytes that lead to it
  pub node : (i b j : ℕ) → i < count → b < 256 → step i b ≡ node_code j → (j < count) × (way j ≡ way i ++ b ∷ [])
  -- a byte that leads to the index of an entry is its last byte
  pub leaf : (i b p : ℕ) → i < count → b < 256 → step i b ≡ p → p < tails
      → (p < length entries) × (bytes_at entries p ≡ way i ++ b ∷ [])
  -- a byte that leads to an entry with bytes after it leads to the only such entry, and no node comes after it
  pub tail : (i b p : ℕ) → i < count → b < 256 → step i b ≡ tail_code p → p < tails
      → IsAlone entries (way i ++ b ∷ []) p
  pub ends : (i b p j : ℕ) → i < count → b < 256 → step i b ≡ tail_code p → p < tails → j < count
      → Begins (way i ++ b ∷ []) (way j) → ⊥
  -- each entry can be reached
  pub there : (i b p : ℕ) → i < count → b < 256 → p < length entries → Begins (way i ++ b ∷ []) (bytes_at entries p)
      → step i b ≢ none
  -- the same bytes lead to no two nodes
  pub one : (i j : ℕ) → i < count → j < count → way i ≡ way j → i ≡ j
  -- the bytes that lead to a node, except the root, are a proper prefix of an entry's
  pub on_way : (i : ℕ) → i < count → 0 < length (way i) → (p : ℕ) × GoesOnBehind entries (way i) p

-- The steps are a trie of the entries, with so many nodes.
pub record HasTrie (step : StepsBy) (count : ℕ) (entries : List Entry) : Type 0 where
  pub way : ℕ → List ℕ
  pub trie : IsTrie step way count entries

-- The first so many bytes of a text lead to a node.
pub record IsAt (step : StepsBy) (count : ℕ) (entries : List Entry) (text : List ℕ) (depth node : ℕ) : Type 0 where
  pub way : ℕ → List ℕ
  pub trie : IsTrie step way count entries
  pub low : node < count
  pub at : Begins (way node) text
  pub deep : length (way node) ≡ depth
