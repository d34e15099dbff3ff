-- Where characters of one and two bytes begin, and which bytes they have.
use Rattle.std.specs.Prelude.{◌≡◌, ℕ, zero, suc, ◌+◌, ◌*◌, ◌/◌, ◌%◌, ◌^◌, ◌<◌, Bool, nat_le, cond, List, slice_index}

-- whether a byte is the first of two, if a character begins with it
abbrev pub leads : ℕ → Bool
leads byte = nat_le 128 byte

-- the index at which a character begins after k others, the first of which begins at index `at`
unfoldable pub start_of : List ℕ → ℕ → ℕ → ℕ
start_of text at zero = at
start_of text at (suc k) = start_of text at k + (1 + cond (leads (slice_index text (start_of text at k))) 1 0)

-- the byte after the first of a character, or 0 if that is a character by itself
abbrev pub second_byte : List ℕ → ℕ → ℕ
second_byte text index = cond (leads (slice_index text index)) (slice_index text (index + 1)) 0

-- These are the two bytes of each of n characters, the first of which begins at index `at`.
pub record AreSplit (text : List ℕ) (at n : ℕ) (pairs : List ℕ) : Type 0 where
  pub first : (k : ℕ) → k < n → slice_index pairs (2 * k) ≡ slice_index text (start_of text at k)
  pub second : (k : ℕ) → k < n → slice_index pairs (2 * k + 1) ≡ second_byte text (start_of text at k)

-- The bits of `mask` say which of n bytes from index `at` on are the first of two, if a character begins with them.
abbrev pub AreMarked : List ℕ → ℕ → ℕ → ℕ → Type 0
AreMarked text at n mask = (i : ℕ) → i < n → mask / 2 ^ i % 2 ≡ cond (leads (slice_index text (at + i))) 1 0
