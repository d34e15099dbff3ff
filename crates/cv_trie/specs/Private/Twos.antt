-- Rows of 256 characters each, for strings of two bytes.
use Rattle.std.specs.Prelude.{◌≡◌, ℕ, ◌+◌, ◌-◌, ◌<◌, ◌≤◌, List, [], ◌∷◌, length, slice_index}
use Rattle.cv_charmap.specs.Entries.{Pair}
use Rattle.cv_trie.specs.Private.Ones.{no_character, HasPair}

-- the index at which the row of a first byte begins: its number in `ones` less that for no character, or 0 if it is not
-- above that
abbrev pub row_of : List ℕ → ℕ → ℕ
row_of ones first = slice_index ones first - no_character

-- the number of two bytes in the rows
abbrev pub two_at : List ℕ → List ℕ → ℕ → ℕ → ℕ
two_at ones twos first second = slice_index twos (row_of ones first + second)

-- how many numbers there are at most: a row of 256 for each byte, the row that all bytes without one share, and 128
-- cells for single bytes
abbrev pub most_cells : ℕ
most_cells = 65920

-- Each of the first `n` bytes has its row among `size` numbers. The row at 0 is that of all bytes that have no other.
-- The others follow it in the order of their bytes.
pub record AreRows (ones : List ℕ) (n size : ℕ) : Type 0 where
  pub some : 256 ≤ size
  pub within : (b : ℕ) → b < n → row_of ones b + 256 ≤ size
  pub behind : (b : ℕ) → b < n → 0 < row_of ones b → 256 ≤ row_of ones b
  pub apart : (a b : ℕ) → a < b → b < n → 0 < row_of ones b → row_of ones a + 256 ≤ row_of ones b

-- This is the index of two bytes in the row of the first, which has one of its own.
pub record IsCell (ones bytes : List ℕ) (cell : ℕ) : Type 0 where
  pub two : length bytes ≡ 2
  pub first : slice_index bytes 0 < 256
  pub second : slice_index bytes 1 < 256
  pub own : 0 < row_of ones (slice_index bytes 0)
  pub at : cell ≡ row_of ones (slice_index bytes 0) + slice_index bytes 1

-- Each first byte has a row, which at least 128 numbers follow. The number of two bytes in the rows is their character,
-- unless it is that for no character or above.
pub record AreTwos (pairs : List Pair) (ones twos : List ℕ) : Type 0 where
  pub within : (b : ℕ) → b < 256 → row_of ones b + 384 ≤ length twos
  pub each : (b c : ℕ) → b < 256 → c < 256 → two_at ones twos b c < no_character
      → HasPair pairs (b ∷ c ∷ []) (two_at ones twos b c)

-- Cells are changed, but no cell has a character that it did not have before.
pub record AddsNoCharacter (before after : List ℕ) : Type 0 where
  pub size : length after ≡ length before
  pub cells : (k : ℕ) → slice_index after k < no_character → slice_index after k ≡ slice_index before k
