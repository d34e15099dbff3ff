-- UTF-8 (Unicode Standard, section 3.9, D92): the well-formed byte sequences of Table 3-7, and the bits that they carry
-- by Table 3-6.
use Rattle.std.specs.Prelude.{◌≡◌, ℕ, ◌+◌, ◌*◌, ◌/◌, ◌%◌, ◌≤◌, ◌⊎◌, List, [], ◌∷◌, length, Option, Some, nat_lt}
use Rattle.std.specs.Prelude.{if◌then◌else◌}
use Rattle.cv_base.specs.Items.{Taken, taken}
use Rattle.cv_base.specs.declared.state.ReadState.{ReadState}
use Rattle.cv_base.specs.declared.state.ReadState.TheVariants as read
use Rattle.cv_base.specs.declared.state.WriteState.{WriteState}
use Rattle.cv_base.specs.declared.state.WriteState.TheVariants as write

-- the numbers from the first to the last
pub record Range : Type 0 where
  pub first : ℕ
  pub last : ℕ

-- as the table writes it
abbrev pub range : ℕ → ℕ → Range
range first last = record { first = first; last = last }

-- the number is in the range, whose ends belong to it
abbrev pub IsIn : Range → ℕ → Type 0
IsIn r n = (r.first ≤ n) × (n ≤ r.last)

-- A row: the scalars, and the ranges of byte 1, byte 2 and so on.
pub record Row : Type 0 where
  pub scalars : Range
  pub bytes : List Range

-- as the table writes it
abbrev pub row : ℕ → ℕ → List Range → Row
row first last bytes = record { scalars = range first last; bytes = bytes }

-- the bytes after the first, if a row names no narrower range
abbrev pub tail : Range
tail = range 0x80 0xbf

-- the well-formed sequences, row by row
abbrev pub table : List Row
table =
    row 0x0000 0x007F (range 0x00 0x7f ∷ []) ∷
    row 0x0080 0x07FF (range 0xc2 0xdf ∷ tail ∷ []) ∷
    row 0x0800 0x0FFF (range 0xe0 0xe0 ∷ range 0xa0 0xbf ∷ tail ∷ []) ∷
    row 0x1000 0xCFFF (range 0xe1 0xec ∷ tail ∷ tail ∷ []) ∷
    row 0xD000 0xD7FF (range 0xed 0xed ∷ range 0x80 0x9f ∷ tail ∷ []) ∷
    row 0xE000 0xFFFF (range 0xee 0xef ∷ tail ∷ tail ∷ []) ∷
    row 0x10000 0x3FFFF (range 0xf0 0xf0 ∷ range 0x90 0xbf ∷ tail ∷ tail ∷ []) ∷
    row 0x40000 0xFFFFF (range 0xf1 0xf3 ∷ tail ∷ tail ∷ tail ∷ []) ∷
    row 0x100000 0x10FFFF (range 0xf4 0xf4 ∷ range 0x80 0x8f ∷ tail ∷ tail ∷ []) ∷ []

-- each byte is in its range, and there are as many bytes as ranges
abbrev pub AreIn : List Range → List ℕ → Type 0
AreIn [] [] = Unit {0}
AreIn [] (b ∷ bytes) = ⊥
AreIn (r ∷ ranges) [] = ⊥
AreIn (r ∷ ranges) (b ∷ bytes) = IsIn r b × AreIn ranges bytes

-- the number that the bytes carry: the low bits of the first, and six bits of each other
abbrev pub carried : List ℕ → ℕ
carried [] = 0
carried (a ∷ []) = a
carried (a ∷ b ∷ []) = (a % 32) * 64 + b % 64
carried (a ∷ b ∷ c ∷ []) = (a % 16) * 4096 + (b % 64) * 64 + c % 64
carried (a ∷ b ∷ c ∷ d ∷ bytes) = (a % 8) * 262144 + (b % 64) * 4096 + (c % 64) * 64 + d % 64

-- the bytes are in the ranges of this row, and carry c, which is one of its scalars
abbrev pub IsOfRow : Row → List ℕ → ℕ → Type 0
IsOfRow r bytes c = AreIn r.bytes bytes × IsIn r.scalars c × (c ≡ carried bytes)

-- the bytes are of one of the rows, and carry c
abbrev pub IsOfOne : List Row → List ℕ → ℕ → Type 0
IsOfOne [] bytes c = ⊥
IsOfOne (r ∷ rows) bytes c = IsOfRow r bytes c ⊎ IsOfOne rows bytes c

-- The item is the character of the whole byte string, which is of a row of the table. The state after it is Start.
abbrev pub utf8_reads : ReadState → List ℕ → Taken → Type 0
utf8_reads s bytes item = (c : ℕ) × IsOfOne table bytes c × (item ≡ taken (length bytes) (Some c) read.Start)

-- the bytes of a scalar: a first byte that says how many there are, and six bits in each other
abbrev pub utf8_bytes : ℕ → List ℕ
utf8_bytes c =
    if nat_lt c 0x80 then c ∷ []
    else if nat_lt c 0x800 then (0xc0 + c / 64) ∷ (0x80 + c % 64) ∷ []
    else if nat_lt c 0x10000 then (0xe0 + c / 4096) ∷ (0x80 + c / 64 % 64) ∷ (0x80 + c % 64) ∷ []
    else (0xf0 + c / 262144) ∷ (0x80 + c / 4096 % 64) ∷ (0x80 + c / 64 % 64) ∷ (0x80 + c % 64) ∷ []

-- Every scalar is written, in one way, and the state after it is Start.
abbrev pub utf8_writes : WriteState → ℕ → Option (List ℕ × WriteState)
utf8_writes t c = Some (utf8_bytes c, write.Start)
