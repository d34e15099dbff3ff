-- Pages that are numbered for the characters of a list.
use Rattle.std.specs.Prelude.{◌≡◌, ℕ, ◌+◌, ◌/◌, ◌%◌, ◌<◌, ◌≤◌, List, slice_index}
use Rattle.cv_byte_trie.specs.Entries.{Entry, character_at}

-- Pages have `size` cells together. The page at 0 is shared by all characters that have no other. No other page is
-- shared by two ranges of 64 characters.
pub record AreNumbered (stage1 : List ℕ) (size : ℕ) : Type 0 where
  pub whole : size % 64 ≡ 0
  pub some : 64 ≤ size
  pub begins : (t : ℕ) → slice_index stage1 t % 64 ≡ 0
  pub within : (t : ℕ) → slice_index stage1 t + 64 ≤ size
  pub apart : (s t : ℕ) → slice_index stage1 s ≡ slice_index stage1 t → 0 < slice_index stage1 t → s ≡ t

-- Each of the first k entries has a page for its character.
abbrev pub ArePaged : List ℕ → ℕ → List Entry → Type 0
ArePaged stage1 k entries = (j : ℕ) → j < k → 0 < slice_index stage1 (character_at entries j / 64)
