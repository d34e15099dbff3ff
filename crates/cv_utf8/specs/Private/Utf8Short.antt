-- Characters of one or two bytes in UTF-8, among sixteen bytes that are read at once.
use Rattle.std.specs.Prelude.{◌≡◌, ℕ, ◌+◌, ◌-◌, ◌*◌, ◌%◌, Bool, cond, nat_lt, List, get_or}

-- The byte is among the `many` values from `least` on.
abbrev pub is_among : ℕ → ℕ → ℕ → Bool
is_among least many x = nat_lt ((x + (256 - least)) % 256) many

-- The byte is a continuation byte.
abbrev pub is_continuation : ℕ → Bool
is_continuation x = is_among 0x80 0x40 x

-- Of a byte x and the next, y: x is not C0, C1 or above DF, and x is C2 to DF exactly if y is a continuation byte.
abbrev pub IsShort : ℕ → ℕ → Type 0
IsShort x y = (is_among 0xc2 0x1e x ≡ is_among 0xc0 0x40 x) × (is_among 0xc2 0x1e x ≡ is_continuation y)

-- `IsShort` of the byte at an offset and the next.
abbrev pub IsShortAt : List ℕ → ℕ → Type 0
IsShortAt text at = IsShort (get_or text at 0) (get_or text (at + 1) 0)

-- the number of the character of one or two bytes that begins with x and y
abbrev pub short_of : ℕ → ℕ → ℕ
short_of x y = cond (nat_lt x 0xc0) x ((x - 0xc0) * 64 + y % 64)

-- the number of the character of one or two bytes that begins at an offset
abbrev pub short_value : List ℕ → ℕ → ℕ
short_value text at = short_of (get_or text at 0) (get_or text (at + 1) 0)

-- 1 if the byte at an offset is a continuation byte, and 0 otherwise
abbrev pub left_over : List ℕ → ℕ → ℕ
left_over text at = cond (is_continuation (get_or text at 0)) 1 0
