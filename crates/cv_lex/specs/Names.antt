-- What the name of a character means (XBD 6.4, symbolic names). Which names are read is the project's own.
use Rattle.std.specs.Prelude.{ℕ, Bool, ◌&&◌, ◌||◌, List, [], ◌∷◌, length, nat_lt, nat_le, ◌==◌, if◌then◌else◌}
use Rattle.std.specs.Prelude.{bytes_eq, Option, Some, None, ok_or, Result, Ok, Err}
use Rattle.std.specs.Char.{is_ascii_alphabetic}
use Rattle.std.specs.Map.{lookup}
use Rattle.cv_lex.specs.Words.{are_digits, numeral}
use Rattle.cv_lex.specs.declared.cause.Cause.{Cause}
use Rattle.cv_lex.specs.declared.cause.Cause.TheVariants.{UnknownName, NotScalar, Range}
use Rattle.cv_lex.specs.Symbols.{symbols}

-- whether a number is a Unicode scalar value (Unicode Standard, section 3.9, D76)
abbrev pub is_scalar : ℕ → Bool
is_scalar n = nat_lt n 0xD800 || (nat_le 0xE000 n && nat_lt n 0x110000)

-- the digits of a name that is `U` and four to eight hexadecimal digits
unfoldable pub digits_of : List ℕ → Option (List ℕ)
digits_of [] = None
digits_of (b ∷ digits) =
    if b == 85 && nat_le 4 (length digits) && nat_le (length digits) 8 && are_digits 16 digits
    then Some digits
    else None

-- the character of a listed name: a letter's is its own, and the others are in the table
unfoldable pub symbol_of : List ℕ → Option ℕ
symbol_of [] = None
symbol_of (b ∷ []) = if is_ascii_alphabetic b then Some b else None
symbol_of (b ∷ c ∷ name) = lookup (bytes_eq (b ∷ c ∷ name)) symbols

-- the character of a number
abbrev pub scalar_of : ℕ → Result ℕ Cause
scalar_of n = if is_scalar n then Ok n else Err NotScalar

-- the character of a number's digits, or else of a listed name
abbrev pub meaning_by : Option (List ℕ) → Option ℕ → Result ℕ Cause
meaning_by (Some digits) symbol = scalar_of (numeral 16 digits)
meaning_by None symbol = ok_or symbol UnknownName

-- What a name means: the character of its number, or that of a listed name.
unfoldable pub character_of : List ℕ → Result ℕ Cause
character_of name = meaning_by (digits_of name) (symbol_of name)

-- the base in which a range counts: 10 for `...`, 16 for `..`
abbrev pub base_of : Bool → ℕ
base_of hex = if hex then 16 else 10

-- the first and the last number that the digits of two names write in a base
abbrev pub range_by : ℕ → Option (List ℕ) → Option (List ℕ) → Result (ℕ × ℕ) Cause
range_by base None last = Err Range
range_by base (Some first) None = Err Range
range_by base (Some first) (Some last) =
    if length first == length last && are_digits base first && are_digits base last
    && nat_le (numeral base first) (numeral base last)
    then Ok (numeral base first, numeral base last)
    else Err Range

-- The numbers of a range: each name is `U` and digits, both have equally many, and the second number is not below the
-- first.
unfoldable pub range_of : Bool → List ℕ → List ℕ → Result (ℕ × ℕ) Cause
range_of hex first last = range_by (base_of hex) (digits_of first) (digits_of last)
