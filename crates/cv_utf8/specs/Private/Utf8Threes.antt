-- Characters of UTF-8 that have three bytes each, eight at once.
use Rattle.std.specs.Prelude.{◌≡◌, ℕ, ◌+◌, ◌*◌, ◌<◌, ◌⊎◌, List, [], ◌∷◌, length, get_or}
use Rattle.cv_base.specs.Scalars.{IsScalar}
use Rattle.cv_utf8.specs.Utf8.{utf8_bytes}
use Rattle.cv_utf8.specs.declared.read.utf16_lanes.Utf16Lanes.{Utf16Lanes}

-- The number is 0, or that of the character that has the three bytes.
abbrev pub IsThreeOf : ℕ → ℕ → ℕ → ℕ → Type 0
IsThreeOf first second third number = (number ≡ 0)
    ⊎ (IsScalar number × (utf8_bytes number ≡ first ∷ second ∷ third ∷ []))

-- Each of the first n numbers is 0, or that of the character of the next three bytes, from an offset on.
abbrev pub AreThrees : List ℕ → ℕ → List ℕ → ℕ → Type 0
AreThrees text at numbers n = (k : ℕ) → k < n → IsThreeOf (get_or text (at + 3 * k) 0) (get_or text (at + 3 * k + 1) 0)
    (get_or text (at + 3 * k + 2) 0) (get_or numbers k 0)

-- The lanes have the bytes of four characters of three bytes. The even lanes have the first two as a number, whose low
-- byte is the first, and the odd lanes the third.
pub record AreParts (text : List ℕ) (at : ℕ) (lanes : List ℕ) : Type 0 where
  pub long : length lanes ≡ 8
  pub fronts : (k : ℕ) → k < 4
      → get_or lanes (2 * k) 0 ≡ get_or text (at + 3 * k) 0 + 256 * get_or text (at + 3 * k + 1) 0
  pub lasts : (k : ℕ) → k < 4 → get_or lanes (2 * k + 1) 0 ≡ get_or text (at + 3 * k + 2) 0

-- All units are scalar values, also those after the characters.
pub record AreScalarLanes (units : Utf16Lanes) : Type 0 where
  pub first : (k : ℕ) → k < 8 → IsScalar (get_or units.first k 0)
  pub second : (k : ℕ) → k < 8 → IsScalar (get_or units.second k 0)
