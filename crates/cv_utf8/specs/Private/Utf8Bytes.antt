-- The continuation bytes of UTF-8 (Unicode Standard, section 3.9, Table 3-7).
use Rattle.std.specs.Prelude.{◌≡◌, ℕ, ◌≤◌}

-- a continuation byte: one after the first of a character
abbrev pub IsTail : ℕ → Type 0
IsTail b = (0x80 ≤ b) × (b ≤ 0xbf)

-- b may follow the first byte a of three or four: it is in the range of the row
abbrev pub IsSecond : ℕ → ℕ → Type 0
IsSecond a b = (0x80 ≤ b) × (b ≤ 0xbf) × (a ≡ 0xe0 → 0xa0 ≤ b) × (a ≡ 0xed → b ≤ 0x9f) × (a ≡ 0xf0 → 0x90 ≤ b)
    × (a ≡ 0xf4 → b ≤ 0x8f)
