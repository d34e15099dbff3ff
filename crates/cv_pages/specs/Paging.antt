-- Pages of 64 characters each, which name indices in a list.
use Rattle.std.specs.Prelude.{◌≡◌, ◌≢◌, ℕ, ◌+◌, ◌/◌, ◌%◌, ◌<◌, ◌≤◌, List, length, slice_index, slice_index_or}
use Rattle.cv_byte_trie.specs.Entries.{Entry, character_at}

-- the value for no entry
abbrev pub unmapped : ℕ
unmapped = 0xFFFFFFFF

-- the index of a character's cell, by where each page begins
abbrev pub cell_of : List ℕ → ℕ → ℕ
cell_of stage1 character = slice_index stage1 (character / 64) + character % 64

-- the index that pages name for a character
abbrev pub index_of : List ℕ → List ℕ → ℕ → ℕ
index_of stage1 stage2 character = slice_index_or stage2 (cell_of stage1 character) unmapped

-- Each page has its 64 cells.
abbrev pub AreWhole : List ℕ → List ℕ → Type 0
AreWhole stage1 stage2 = (t : ℕ) → slice_index stage1 t + 64 ≤ length stage2

-- Each character of the first `k` entries has the index of its first entry, and any other character has none.
pub record NameFirst (index : ℕ → ℕ) (k : ℕ) (entries : List Entry) : Type 0 where
  pub low : (c : ℕ) → index c ≢ unmapped → index c < k
  pub of : (c : ℕ) → index c ≢ unmapped → character_at entries (index c) ≡ c
  pub first : (c j : ℕ) → index c ≢ unmapped → j < index c → character_at entries j ≢ c
  pub lacks : (c j : ℕ) → index c ≡ unmapped → j < k → character_at entries j ≢ c

-- Pages name for each character of entries the index of its first, and nothing else.
abbrev pub AreFirst : List ℕ → List ℕ → List Entry → Type 0
AreFirst stage1 stage2 entries = NameFirst (index_of stage1 stage2) (length entries) entries
