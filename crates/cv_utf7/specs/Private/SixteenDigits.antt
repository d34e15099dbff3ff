-- What sixteen digits spell, four and eight at a time.
use Rattle.std.specs.Prelude.{◌≡◌, ℕ, ◌+◌, ◌*◌, ◌/◌, ◌%◌, ◌<◌, ◌≤◌, List, get_or}

-- So many digits are the fewest that hold so many code units.
abbrev pub Holds : ℕ → ℕ → Type 0
Holds digits units = (16 * units ≤ 6 * digits) × (6 * digits < 16 * units + 6)

-- the number of 24 bits that four values spell, the first of which is at index i
abbrev pub quad : List ℕ → ℕ → ℕ
quad values i = ((get_or values i 0 * 64 + get_or values (i + 1) 0) * 64 + get_or values (i + 2) 0) * 64
    + get_or values (i + 3) 0

-- Each number is that of four values.
abbrev pub AreQuads : List ℕ → List ℕ → Type 0
AreQuads values quads = (k : ℕ) → k < 4 → get_or quads k 0 ≡ quad values (4 * k)

-- the first code unit of eight values, the first of which is at index i: their bits 0 to 15, the highest first
abbrev pub first_unit : List ℕ → ℕ → ℕ
first_unit values i = get_or values i 0 * 1024 + get_or values (i + 1) 0 * 16 + get_or values (i + 2) 0 / 4

-- the second: their bits 16 to 31
abbrev pub second_unit : List ℕ → ℕ → ℕ
second_unit values i = get_or values (i + 2) 0 % 4 * 16384 + get_or values (i + 3) 0 * 256 + get_or values (i + 4) 0 * 4
    + get_or values (i + 5) 0 / 16

-- the third: their bits 32 to 47
abbrev pub third_unit : List ℕ → ℕ → ℕ
third_unit values i = get_or values (i + 5) 0 % 16 * 4096 + get_or values (i + 6) 0 * 64 + get_or values (i + 7) 0

-- Six code units are those of sixteen values.
pub record AreUnits (values units : List ℕ) : Type 0 where
  pub first : get_or units 0 0 ≡ first_unit values 0
  pub second : get_or units 1 0 ≡ second_unit values 0
  pub third : get_or units 2 0 ≡ third_unit values 0
  pub fourth : get_or units 3 0 ≡ first_unit values 8
  pub fifth : get_or units 4 0 ≡ second_unit values 8
  pub sixth : get_or units 5 0 ≡ third_unit values 8
