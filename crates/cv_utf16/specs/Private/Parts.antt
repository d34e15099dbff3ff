-- Parts of units: what can begin with fewer bytes than a unit has.
use Rattle.std.specs.Prelude.{◌≡◌, ℕ, ◌<◌, ◌≤◌, List, length, get_or}
use Rattle.cv_base.specs.declared.endian.Endian.{Endian}
use Rattle.cv_base.specs.declared.endian.Endian.TheVariants.{Big, Little}

-- the high byte of a low surrogate
abbrev pub IsLowByte : ℕ → Type 0
IsLowByte b = (0xdc ≤ b) × (b < 0xe0)

-- A low surrogate can begin with this byte.
abbrev pub CanBeLow : Endian → ℕ → Type 0
CanBeLow Big b = IsLowByte b
CanBeLow Little b = Unit {0}

-- A unit that is no low surrogate can begin with this byte.
abbrev pub CanBeOther : Endian → ℕ → Type 0
CanBeOther Big b = IsLowByte b → ⊥
CanBeOther Little b = Unit {0}

-- the second and third highest bytes of a number are those of no surrogate
abbrev pub IsThird : ℕ → ℕ → Type 0
IsThird second third = second ≡ 0 → 0xd8 ≤ third → 0xe0 ≤ third

-- A scalar can begin in UTF-32 with these one to three bytes.
abbrev pub CanBeScalar : Endian → List ℕ → Type 0
CanBeScalar Big part = (get_or part 0 0 ≡ 0) × (2 ≤ length part → get_or part 1 0 ≤ 0x10)
    × (3 ≤ length part → IsThird (get_or part 1 0) (get_or part 2 0))
CanBeScalar Little part = 3 ≤ length part → (get_or part 2 0 ≤ 0x10) × IsThird (get_or part 2 0) (get_or part 1 0)
