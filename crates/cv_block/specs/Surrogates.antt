-- Surrogates (Unicode 3.8, D71 to D75): code units that come in pairs of a high and a low one.
use Rattle.std.specs.Prelude.{◌≡◌, ℕ, ◌/◌, ◌≤◌, ◌<◌}
use Rattle.cv_base.specs.Units.{high_unit, low_unit}

-- the unit is a surrogate, high or low
abbrev pub IsSurrogate : ℕ → Type 0
IsSurrogate unit = (0xD800 ≤ unit) × (unit < 0xE000)

-- the unit is a high surrogate
abbrev pub IsHighUnit : ℕ → Type 0
IsHighUnit unit = unit / 0x400 ≡ 0x36

-- the unit is a low surrogate
abbrev pub IsLowUnit : ℕ → Type 0
IsLowUnit unit = unit / 0x400 ≡ 0x37

-- A high and a low surrogate are the units of a character.
pub record IsPair (high low c : ℕ) : Type 0 where
  pub above : 0x10000 ≤ c
  pub first : high_unit c ≡ high
  pub second : low_unit c ≡ low
