-- The results of looking up a text, and of adding an entry.
use Rattle.std.specs.Prelude.{◌≡◌, ℕ, ◌<◌, List, [], ◌∷◌, ◌++◌, length}
use Rattle.cv_base.specs.Items.{Begins}
use Rattle.cv_byte_trie.specs.Entries.{Entry, bytes_at}
use Rattle.cv_byte_trie.specs.declared.lookup.Lookup.{Lookup}
use Rattle.cv_byte_trie.specs.declared.lookup.Lookup.TheVariants as found
use Rattle.cv_byte_trie.specs.declared.added.Added.{Added}
use Rattle.cv_byte_trie.specs.declared.added.Added.TheVariants as added

-- No entry's bytes begin with these, nor do these begin with an entry's.
abbrev pub MeetsNone : List Entry → List ℕ → Type 0
MeetsNone entries bytes =
    (p : ℕ) → p < length entries → (Begins (bytes_at entries p) bytes → ⊥) × (Begins bytes (bytes_at entries p) → ⊥)

-- The bytes of the entry at an index begin with these, and are longer.
pub record GoesOnBehind (entries : List Entry) (bytes : List ℕ) (index : ℕ) : Type 0 where
  pub low : index < length entries
  pub front : Begins bytes (bytes_at entries index)
  pub longer : length bytes < length (bytes_at entries index)

-- What a text is among the entries: it begins with the bytes of one, or is a proper prefix of the bytes of one, or
-- neither.
abbrev pub Finds : List Entry → List ℕ → Lookup → Type 0
Finds entries text (found.Entry index) = (index < length entries) × Begins (bytes_at entries index) text
Finds entries text found.Inside = (index : ℕ) × GoesOnBehind entries text index
Finds entries text found.Nothing = MeetsNone entries text

-- The result of adding an entry. If it meets no other, it is the last of the new list. Otherwise nothing changes: an
-- entry has its bytes, or its bytes begin with an entry's and are longer, or an entry's bytes begin with its bytes and
-- are longer.
abbrev pub Adds : List Entry → Entry → Added → List Entry → Type 0
Adds old entry added.Entered new = MeetsNone old entry.0 × (new ≡ old ++ entry ∷ [])
Adds old entry (added.Held index) new = (index < length old) × (bytes_at old index ≡ entry.0) × (new ≡ old)
Adds old entry (added.Continues index) new = (index < length old) × Begins (bytes_at old index) entry.0
    × (length (bytes_at old index) < length entry.0) × (new ≡ old)
Adds old entry added.Begins new = ((index : ℕ) × GoesOnBehind old entry.0 index) × (new ≡ old)
