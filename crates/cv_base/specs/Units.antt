-- Code units: those of a character in UTF-16 (Unicode Standard, section 3.9, D91 and Table 3-5), which UTF-7 encodes
-- too (RFC 2152), and the bytes of a unit.
use Rattle.std.specs.Prelude.{ℕ, ◌+◌, ◌-◌, ◌/◌, ◌%◌, List, [], ◌∷◌, nat_lt, if◌then◌else◌}
use Rattle.cv_base.specs.declared.ascii_form.AsciiForm.{AsciiForm}
use Rattle.cv_base.specs.declared.ascii_form.AsciiForm.TheVariants.{Byte, Two, Four}
use Rattle.cv_base.specs.declared.endian.Endian.{Endian}
use Rattle.cv_base.specs.declared.endian.Endian.TheVariants.{Big, Little}

-- the high surrogate of a character from U+10000 on
abbrev pub high_unit : ℕ → ℕ
high_unit c = 0xD800 + (c - 0x10000) / 0x400

-- the low surrogate of a character from U+10000 on
abbrev pub low_unit : ℕ → ℕ
low_unit c = 0xDC00 + (c - 0x10000) % 0x400

-- A character below U+10000 is one unit. Any other is a high and a low surrogate.
abbrev pub units_of : ℕ → List ℕ
units_of c = if nat_lt c 0x10000 then c ∷ [] else high_unit c ∷ low_unit c ∷ []

-- two bytes in a byte order, given with the higher first
abbrev pub two_in : Endian → ℕ → ℕ → List ℕ
two_in Big a b = a ∷ b ∷ []
two_in Little a b = b ∷ a ∷ []

-- four bytes in a byte order, given with the highest first
abbrev pub four_in : Endian → ℕ → ℕ → ℕ → ℕ → List ℕ
four_in Big a b c d = a ∷ b ∷ c ∷ d ∷ []
four_in Little a b c d = d ∷ c ∷ b ∷ a ∷ []

-- the bytes of a number as a unit of this form
abbrev pub unit_of : AsciiForm → ℕ → List ℕ
unit_of Byte u = u ∷ []
unit_of (Two endian) u = two_in endian (u / 0x100) (u % 0x100)
unit_of (Four endian) u = four_in endian (u / 0x1000000) (u / 0x10000 % 0x100) (u / 0x100 % 0x100) (u % 0x100)

-- how many bytes each unit has
abbrev pub unit_size : AsciiForm → ℕ
unit_size Byte = 1
unit_size (Two endian) = 2
unit_size (Four endian) = 4

-- Numbers below this are one unit.
abbrev pub unit_limit : AsciiForm → ℕ
unit_limit Byte = 0x100
unit_limit (Two endian) = 0x10000
unit_limit (Four endian) = 0x100000000
