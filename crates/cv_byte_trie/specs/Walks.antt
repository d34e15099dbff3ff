-- Where byte strings lead through a trie.
use Rattle.std.specs.Prelude.{◌≡◌, ◌==◌, ℕ, suc, ◌-◌, ◌<◌, ◌⊎◌, List, [], ◌∷◌, ◌++◌, length, take, nat_lt}
use Rattle.std.specs.Prelude.{if◌then◌else◌}
use Rattle.cv_byte_trie.specs.Entries.{Entry, bytes_at}
use Rattle.cv_byte_trie.specs.Results.{GoesOnBehind}
use Rattle.cv_byte_trie.specs.Tries.{StepsBy, tails, none, IsAlone}

-- A walk reaches the entry at an index after so many bytes: by its last byte (`Leaf`), or by one that others follow
-- (`Tail`). Or it ends at a node, or leads nowhere.
pub data Destination : Type 0 where
  Leaf : (index count : ℕ) → Destination
  Tail : (index count : ℕ) → Destination
  Node : (node : ℕ) → Destination
  Nowhere : Destination

-- the same, after one byte more
abbrev pub later : Destination → Destination
later (Leaf index count) = Leaf index (suc count)
later (Tail index count) = Tail index (suc count)
later (Node node) = Node node
later Nowhere = Nowhere

-- where bytes lead from a node, one step for each byte
abbrev pub walk : StepsBy → ℕ → List ℕ → Destination
walk step node [] = Node node
walk step node (b ∷ bytes) =
    if nat_lt (step node b) tails then Leaf (step node b) 1 else
    if nat_lt (step node b) none then Tail (step node b - 0x40000000) 1 else
    if step node b == none then Nowhere else later (walk step (step node b - 0x80000001) bytes)

-- all numbers are those of bytes
abbrev pub AreBytes : List ℕ → Type 0
AreBytes [] = Unit {0}
AreBytes (b ∷ bytes) = (b < 256) × AreBytes bytes

-- Where byte strings lead from the root.
pub record Leads (step : StepsBy) (entries : List Entry) : Type 0 where
  -- each entry's bytes lead to its own index, whatever follows them: all of them do, or a proper prefix of them
  pub own : (p : ℕ) (rest : List ℕ) → p < length entries → AreBytes (bytes_at entries p)
      → (walk step 0 (bytes_at entries p ++ rest) ≡ Leaf p (length (bytes_at entries p)))
      ⊎ ((n : ℕ) × (n < length (bytes_at entries p)) × (walk step 0 (bytes_at entries p ++ rest) ≡ Tail p n))
  -- bytes that lead to a `Tail` are a proper prefix of that entry's bytes, and of no other's
  pub alone : (bytes : List ℕ) (p n : ℕ) → AreBytes bytes → walk step 0 bytes ≡ Tail p n
      → IsAlone entries (take n bytes) p
  -- bytes that lead to a `Leaf` are that entry's bytes
  pub only : (bytes : List ℕ) (p n : ℕ) → AreBytes bytes → walk step 0 bytes ≡ Leaf p n
      → (p < length entries) × (bytes_at entries p ≡ take n bytes)
  -- bytes that lead to a node other than the root are a proper prefix of an entry's bytes
  pub on_way : (bytes : List ℕ) (node : ℕ) → 0 < length bytes → AreBytes bytes → walk step 0 bytes ≡ Node node
      → (p : ℕ) × GoesOnBehind entries bytes p
