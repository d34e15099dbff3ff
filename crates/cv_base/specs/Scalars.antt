-- Characters (Unicode Standard, section 3.9, D76).
use Rattle.std.specs.Prelude.{ℕ, ◌<◌, ◌≤◌, List, [], ◌∷◌}

-- A Unicode scalar value: a number up to 0x10FFFF that is no surrogate.
abbrev pub IsScalar : ℕ → Type 0
IsScalar n = (n < 0x110000) × (0xD800 ≤ n → 0xE000 ≤ n)

-- Each number is a scalar value.
abbrev pub AreScalars : List ℕ → Type 0
AreScalars [] = Unit {0}
AreScalars (c ∷ characters) = IsScalar c × AreScalars characters

-- `?`, which replaces a character that the target lacks
abbrev pub question : ℕ
question = 0x3F
