-- Units of UTF-16, each high surrogate joined with the low one after it, many at once.
use Rattle.std.specs.Prelude.{◌≡◌, ℕ, ◌+◌, ◌*◌, ◌/◌, ◌<◌, List, [], ◌∷◌, get_or, nat_eq, if◌then◌else◌}
use Rattle.std.specs.List.{flat_map}
use Rattle.cv_base.specs.Scalars.{IsScalar}
use Rattle.cv_base.specs.declared.ascii_form.AsciiForm.TheVariants.{Two}
use Rattle.cv_base.specs.declared.endian.Endian.{Endian}
use Rattle.cv_block.specs.Surrogates.{IsHighUnit, IsLowUnit, IsPair}
use Rattle.cv_block.specs.Units.{IsUnitAt}

-- A number is that of a high surrogate joined with the low one after it, or that of another unit that no low one
-- follows.
pub record IsPaired (endian : Endian) (text : List ℕ) (at number : ℕ) : Type 0 where
  pub unit : ℕ
  pub next : ℕ
  pub here : IsUnitAt (Two endian) text at unit
  pub behind : IsUnitAt (Two endian) text (at + 2) next
  pub in_pairs : (IsHighUnit unit → IsLowUnit next) × (IsLowUnit next → IsHighUnit unit)
  pub pair : IsHighUnit unit → IsPair unit next number
  pub alone : (IsHighUnit unit → ⊥) → number ≡ unit

-- The first n numbers are those of units, one after the other.
abbrev pub ArePaired : Endian → List ℕ → List ℕ → ℕ → Type 0
ArePaired endian text numbers n = (k : ℕ) → k < n → IsPaired endian text (2 * k) (get_or numbers k 0)

-- The first n numbers are those of characters, or low surrogates.
abbrev pub AreScalarsOrLow : List ℕ → ℕ → Type 0
AreScalarsOrLow numbers n = (k : ℕ) → k < n → (IsLowUnit (get_or numbers k 0) → ⊥) → IsScalar (get_or numbers k 0)

-- a number, if it is no low surrogate
abbrev pub unless_low : ℕ → List ℕ
unless_low c = if nat_eq (c / 0x400) 0x37 then [] else c ∷ []

-- the numbers that are no low surrogates
abbrev pub without_low : List ℕ → List ℕ
without_low numbers = flat_map unless_low numbers
