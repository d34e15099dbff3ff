-- Sixteen characters that are read, or written, at once.
use Rattle.std.specs.Prelude.{Bool, nat_eq, take, ◌≡◌, ℕ, ◌+◌, ◌*◌, ◌/◌, ◌%◌, ◌<◌, ◌≤◌, List, length, get_or}
use Rattle.std.specs.List.{flat_map}
use Rattle.cv_base.specs.Scalars.{IsScalar, AreScalars}
use Rattle.cv_base.specs.Items.{Begins}
use Rattle.cv_base.specs.declared.endian.Endian.{Endian}
use Rattle.cv_base.specs.declared.endian.Endian.TheVariants.{Big, Little}
use Rattle.cv_block.specs.StatelessForms.{BytesOf}
use Rattle.cv_block.specs.Units.{AreScalarsBelow}

-- The units are sixteen characters, whose bytes begin a text.
pub record IsWindow (bytes_of : BytesOf) (size : ℕ) (text units : List ℕ) : Type 0 where
  pub long : length units ≡ 16
  pub few : (k : ℕ) → k < 16 → get_or units k 0 < 0x10000
  pub scalars : AreScalars units
  pub begins : Begins (flat_map bytes_of units) text
  pub uses : size ≡ length (flat_map bytes_of units)

-- The units are characters, whose bytes begin a text and are `used` in number.
pub record AreFirst (bytes_of : BytesOf) (used : ℕ) (text units : List ℕ) : Type 0 where
  pub scalars : AreScalars units
  pub begins : Begins (flat_map bytes_of units) text
  pub uses : used ≡ length (flat_map bytes_of units)

-- The units are sixteen numbers below 0x10000. If all of them are characters, their bytes begin a text. If the first n
-- are, so do the bytes of these.
pub record AreSixteen (bytes_of : BytesOf) (size : ℕ) (text units : List ℕ) : Type 0 where
  pub few : (k : ℕ) → k < 16 → get_or units k 0 < 0x10000
  pub window : AreScalarsBelow units 16 → IsWindow bytes_of size text units
  pub front : (n : ℕ) → n ≤ 16 → AreScalarsBelow units n → AreFirst bytes_of (n * (size / 16)) text (take n units)

-- whether a unit is a surrogate
abbrev pub is_surrogate : ℕ → Bool
is_surrogate u = nat_eq (u / 0x800) 27

-- a unit as the number that is written with the low byte first
abbrev pub in_order : Endian → ℕ → ℕ
in_order Big u = u / 0x100 + u % 0x100 * 0x100
in_order Little u = u

-- The unit is below 0x10000. If it is a scalar value, it is the number.
pub record IsNarrow (number unit : ℕ) : Type 0 where
  pub few : unit < 0x10000
  pub same : IsScalar unit → number ≡ unit

-- The first n units are those of n numbers.
abbrev pub AreNarrow : List ℕ → List ℕ → ℕ → Type 0
AreNarrow numbers units n = (k : ℕ) → k < n → IsNarrow (get_or numbers k 0) (get_or units k 0)

-- A character from U+10000 on is at the start of a text, and has four bytes.
pub record IsSupplementary (bytes_of : BytesOf) (text : List ℕ) (c : ℕ) : Type 0 where
  pub scalar : IsScalar c
  pub above : 0x10000 ≤ c
  pub begins : Begins (bytes_of c) text
  pub size : length (bytes_of c) ≡ 4

-- So many windows and one more are in `text` bytes of a text, and fit into `room` bytes.
pub record AreAhead (size text room ahead : ℕ) : Type 0 where
  pub within : ahead * size + size ≤ text
  pub fit : 64 * ahead + 64 ≤ room
