-- One table of numbers for single bytes and for pairs.
use Rattle.std.specs.Prelude.{◌≡◌, ℕ, ◌+◌, ◌<◌, ◌≤◌, List, length, slice_index}
use Rattle.cv_simd.specs.Splits.{second_byte}
use Rattle.cv_trie.specs.Private.Twos.{row_of}

-- A byte below 128 has a cell with its number in `ones`. Any other has its row.
pub record AreStarts (ones twos starts : List ℕ) : Type 0 where
  pub long : length starts ≡ 256
  pub within : (b : ℕ) → b < 128 → slice_index starts b < length twos
  pub single : (b : ℕ) → b < 128 → slice_index twos (slice_index starts b) ≡ slice_index ones b
  pub first : (b : ℕ) → 128 ≤ b → b < 256 → slice_index starts b ≡ row_of ones b

-- the number of the character at an index of a text, by its one or two bytes
abbrev pub number_at : List ℕ → List ℕ → List ℕ → ℕ → ℕ
number_at twos starts text at = slice_index twos (slice_index starts (slice_index text at) + second_byte text at)
