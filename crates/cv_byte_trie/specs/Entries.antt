-- Byte strings and their characters, in the order in which they were entered.
use Rattle.std.specs.Prelude.{◌≡◌, ℕ, ◌<◌, ◌≤◌, List, [], length, slice_index_or}
use Rattle.cv_base.specs.Scalars.{IsScalar}
use Rattle.cv_base.specs.Items.{Begins}

-- a byte string and its character
abbrev pub Entry : Type 0
Entry = List ℕ × ℕ

-- the entry that is taken for an index past the end of a list
abbrev pub no_entry : Entry
no_entry = ([], 0)

-- the byte string at an index
abbrev pub bytes_at : List Entry → ℕ → List ℕ
bytes_at entries index = (slice_index_or entries index no_entry).0

-- the character at an index
abbrev pub character_at : List Entry → ℕ → ℕ
character_at entries index = (slice_index_or entries index no_entry).1

-- No byte string begins that at another index: so they are distinct, and none is a prefix of another.
abbrev pub AreApart : List Entry → Type 0
AreApart entries =
    (j k : ℕ) → j < length entries → k < length entries → Begins (bytes_at entries j) (bytes_at entries k) → j ≡ k

-- Entries that can be looked up: byte strings of 1 to 8 bytes, none of which begins another, and scalar values.
pub record AreEntries (entries : List Entry) : Type 0 where
  pub some : (k : ℕ) → k < length entries → 0 < length (bytes_at entries k)
  pub short : (k : ℕ) → k < length entries → length (bytes_at entries k) ≤ 8
  pub scalar : (k : ℕ) → k < length entries → IsScalar (character_at entries k)
  pub apart : AreApart entries
