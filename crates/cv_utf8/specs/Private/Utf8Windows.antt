-- Windows of sixteen bytes of UTF-8 that are read at once.
use Rattle.std.specs.Prelude.{◌≡◌, ℕ, ◌+◌, ◌-◌, ◌*◌, ◌/◌, ◌%◌, ◌≤◌, ◌<◌, ◌⊎◌, true, false, cond, nat_lt, nat_eq, List}
use Rattle.std.specs.Prelude.{get_or}
use Rattle.std.specs.Int.{bit_at}
use Rattle.cv_block.specs.StatelessForms.{IsFormAt}
use Rattle.cv_utf8.specs.Utf8.{utf8_bytes}
use Rattle.cv_utf8.specs.Private.Utf8Bytes.{IsTail}
use Rattle.cv_utf8.specs.Private.Utf8Short.{is_among, is_continuation}

-- Either no character begins in a lane, and the offset that is reached stays. Or the character with this number begins
-- at this offset, and the next offset is after it.
abbrev pub IsLane : List ℕ → ℕ → ℕ → ℕ → ℕ → ℕ → Type 0
IsLane text at value beginning reached next = ((beginning ≡ 0) × (next ≡ reached))
    ⊎ ((beginning ≡ 1) × ((size : ℕ) × (next ≡ reached + size) × IsFormAt utf8_bytes text (at + reached) value size))

-- The characters that begin in sixteen lanes, as the bits of `starts_mask` say, are one after the other at offset `at`
-- of a text, and have `used` bytes together.
pub record AreStarting (text : List ℕ) (at : ℕ) (values : List ℕ) (starts_mask used : ℕ) : Type 0 where
  pub reach : ℕ → ℕ
  pub begins : reach 0 ≡ 0
  pub ends : reach 16 ≡ used
  pub lanes : (k : ℕ) → k < 16 → IsLane text at (get_or values k 0) (bit_at starts_mask k) (reach k) (reach (k + 1))

-- The byte is ASCII.
abbrev pub IsOneAt : List ℕ → ℕ → Type 0
IsOneAt text i = get_or text i 0 < 128

-- The byte is a continuation byte.
abbrev pub IsTailAt : List ℕ → ℕ → Type 0
IsTailAt text i = IsTail (get_or text i 0)

-- A character of two bytes is at the offset.
abbrev pub IsTwoAt : List ℕ → ℕ → Type 0
IsTwoAt text i = (0xc2 ≤ get_or text i 0) × (get_or text i 0 ≤ 0xdf) × IsTailAt text (i + 1)

-- A character of three bytes is at the offset.
abbrev pub IsThreeAt : List ℕ → ℕ → Type 0
IsThreeAt text i = (0xe0 ≤ get_or text i 0) × (get_or text i 0 ≤ 0xef) × IsTailAt text (i + 1) × IsTailAt text (i + 2)
    × (get_or text i 0 ≡ 0xe0 → 0xa0 ≤ get_or text (i + 1) 0) × (get_or text i 0 ≡ 0xed → get_or text (i + 1) 0 < 0xa0)

-- `marks` has sixteen bits, and bit k is set only if offset at + k is of the kind.
abbrev pub AreMarks : (ℕ → Type 0) → ℕ → ℕ → Type 0
AreMarks Is at marks = (marks < 0x10000) × ((k : ℕ) → k < 16 → bit_at marks k ≡ 1 → Is (at + k))

-- The byte is the second or the third of a character whose first byte is before it.
abbrev pub IsFollowing : List ℕ → ℕ → ℕ → Type 0
IsFollowing text at k = ((j : ℕ) × (k ≡ j + 1) × (0xc2 ≤ get_or text (at + j) 0))
    ⊎ ((j : ℕ) × (k ≡ j + 2) × (0xe0 ≤ get_or text (at + j) 0) × (is_continuation (get_or text (at + j + 1) 0) ≡ true))

-- The first `used` bytes of a window are complete characters of up to three bytes.
pub record AreComplete (text : List ℕ) (at used : ℕ) : Type 0 where
  pub most : used ≤ 18
  pub firsts : (k : ℕ) → k < 16 → k < used → is_continuation (get_or text (at + k) 0) ≡ false
      → IsOneAt text (at + k) ⊎ ((IsTwoAt text (at + k) × (k + 2 ≤ used)) ⊎ (IsThreeAt text (at + k) × (k + 3 ≤ used)))
  pub over : (k : ℕ) → 16 ≤ k → k < used → is_continuation (get_or text (at + k) 0) ≡ true
  pub behind : (k : ℕ) → k < used → is_continuation (get_or text (at + k) 0) ≡ true → IsFollowing text at k

-- the high byte of the number of a character of three bytes that begins with x and y, and 0 instead of a surrogate's
abbrev pub three_high : ℕ → ℕ → ℕ
three_high x y = cond (nat_eq (((x % 16) * 16 + y % 64 / 4) / 8) 27) 0 ((x % 16) * 16 + y % 64 / 4)

-- the number of the character with which three bytes begin, and some scalar value if they begin with none
abbrev pub whole_of : ℕ → ℕ → ℕ → ℕ
whole_of x y z = cond (nat_lt x 0x80) x (cond (is_among 0xe0 0x10 x) (three_high x y * 256 + (y % 4) * 64 + z % 64)
    ((x - 0xc0) / 4 * 256 + (x % 4) * 64 + y % 64))

-- the number of the character of up to three bytes that begins at an offset
abbrev pub whole_value : List ℕ → ℕ → ℕ
whole_value text at = whole_of (get_or text at 0) (get_or text (at + 1) 0) (get_or text (at + 2) 0)
