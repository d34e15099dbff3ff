-- Units of up to three bytes in UTF-8, of which eight are written at once.
use Rattle.std.specs.Prelude.{◌≡◌, ℕ, ◌+◌, ◌*◌, ◌/◌, ◌%◌, ◌<◌, Bool, not, nat_lt, if◌then◌else◌, List, [], ◌∷◌, length}
use Rattle.std.specs.Prelude.{get_or, map}
use Rattle.std.specs.Simd.Lanes.{mask_l}
use Rattle.cv_utf8.specs.Private.TwoByte.{has_two}

-- The unit has three bytes or more.
abbrev pub has_three : ℕ → Bool
has_three u = not (nat_lt u 0x800)

-- four bytes for a unit of up to three: its bytes, and then zeros
abbrev pub quad_of : ℕ → List ℕ
quad_of u =
    if nat_lt u 0x80 then u ∷ 0 ∷ 0 ∷ 0 ∷ []
    else if nat_lt u 0x800 then (0xc0 + u / 64) ∷ (0x80 + u % 64) ∷ 0 ∷ 0 ∷ []
    else (0xe0 + u / 4096) ∷ (0x80 + u / 64 % 64) ∷ (0x80 + u % 64) ∷ 0 ∷ []

-- the first two bytes of a unit as a number, the first as its low byte; if it has a single byte, the second is 0
abbrev pub first_two_of : ℕ → ℕ
first_two_of u =
    if nat_lt u 0x80 then u
    else if nat_lt u 0x800 then (0xc0 + u / 64) + 0x100 * (0x80 + u % 64)
    else (0xe0 + u / 4096) + 0x100 * (0x80 + u / 64 % 64)

-- the third byte of a unit, or 0 if it has none
abbrev pub third_of : ℕ → ℕ
third_of u = if nat_lt u 0x800 then 0 else 0x80 + u % 64

-- which of four units have two bytes or more, as bits, the lowest for the first; and from the fifth bit on which have
-- three
abbrev pub size_bits : List ℕ → ℕ
size_bits units = mask_l (map has_two units) + 16 * mask_l (map has_three units)

-- All units have up to three bytes in UTF-8.
abbrev pub AreThreeByte : List ℕ → Type 0
AreThreeByte units = (k : ℕ) → k < length units → get_or units k 0 < 0x10000

-- Two numbers for each of eight units are its first two bytes and its third.
abbrev pub AreSplit : List ℕ → List ℕ → List ℕ → Type 0
AreSplit first_two third units = (length units ≡ 8) × ((k : ℕ) → k < 8 → get_or units k 0 < 0x10000)
    × (first_two ≡ map first_two_of units) × (third ≡ map third_of units)
