-- The bytes of an encoding: decimal, hexadecimal and octal constants (XBD 6.4). That a constant is at most 255, and all
-- of one type, is the project's own.
use Rattle.std.specs.Prelude.{ℕ, zero, suc, ◌&&◌, List, [], ◌∷◌, length, take, drop, take_while, codes, nat_lt, nat_le}
use Rattle.std.specs.Prelude.{◌==◌, if◌then◌else◌, Option, Some, None, option_map, option_and_then, Result, Ok, Err}
use Rattle.std.specs.Char.{is_digit}
use Rattle.cv_lex.specs.Words.{begins, numeral}
use Rattle.cv_lex.specs.declared.cause.Cause.{Cause}
use Rattle.cv_lex.specs.declared.cause.Cause.TheVariants.{Constant, Length}
use Rattle.cv_lex.specs.declared.encoding.Kind.{Kind}
use Rattle.cv_lex.specs.declared.encoding.Kind.TheVariants.{Decimal, Hexadecimal, Octal}

-- the letter after the escape character
abbrev pub letter_of : Kind → List ℕ
letter_of Decimal = codes "d"
letter_of Hexadecimal = codes "x"
letter_of Octal = []

-- the base of its digits
abbrev pub base_of_kind : Kind → ℕ
base_of_kind Decimal = 10
base_of_kind Hexadecimal = 16
base_of_kind Octal = 8

-- how many digits it has at most; it has two at least
abbrev pub most_digits : Kind → ℕ
most_digits Decimal = 3
most_digits Hexadecimal = 2
most_digits Octal = 3

-- the type of the constant whose escape character precedes the text
abbrev pub kind_of : List ℕ → Kind
kind_of text = if begins text (codes "d") then Decimal else if begins text (codes "x") then Hexadecimal else Octal

-- the digits at the start, at most as many as the type allows
abbrev pub digits_at : Kind → List ℕ → List ℕ
digits_at kind text = take_while (λ b. is_digit b (base_of_kind kind)) (take (most_digits kind) text)

-- the number of these digits, and what follows them, if they are two or more and the number is at most 255
abbrev pub numeral_at : Kind → List ℕ → Option (ℕ × List ℕ)
numeral_at kind text =
    let digits : List ℕ = digits_at kind text in
    let number : ℕ = numeral (base_of_kind kind) digits in
    if nat_le 2 (length digits) && nat_le number 255 then Some (number, drop (length digits) text) else None

-- what follows an escape character and the letter of a type, if the text begins with them
abbrev pub behind_head : ℕ → Kind → List ℕ → Option (List ℕ)
behind_head escape kind text =
    let head : List ℕ = escape ∷ letter_of kind in
    if begins text head then Some (drop (length head) text) else None

-- the constant of a type at the start: its number, and what follows it
unfoldable pub constant_at : ℕ → Kind → List ℕ → Option (ℕ × List ℕ)
constant_at escape kind text = option_and_then (numeral_at kind) (behind_head escape kind text)

-- the numbers of constants of one type, one after another to the end, if there are at most `most`
abbrev pub numbers_within : ℕ → ℕ → Kind → List ℕ → Option (List ℕ)
numbers_within most escape kind [] = Some []
numbers_within zero escape kind (b ∷ text) = None
numbers_within (suc most) escape kind (b ∷ text) =
    option_and_then
    (λ c. option_map (λ numbers. c.0 ∷ numbers) (numbers_within most escape kind c.1))
    (constant_at escape kind (b ∷ text))

-- the bytes, if there are any and at most eight
abbrev pub bytes_by : Option (List ℕ) → Result (List ℕ) Cause
bytes_by None = Err Constant
bytes_by (Some bytes) = if nat_lt 8 (length bytes) then Err Length else Ok bytes

-- The bytes of an encoding: the numbers of one or more constants of one type. Each constant takes bytes, so there are
-- no more than the text has.
unfoldable pub bytes_of : ℕ → List ℕ → Result (List ℕ) Cause
bytes_of escape text =
    if length text == 0
    then Err Constant
    else bytes_by (numbers_within (length text) escape (kind_of (drop 1 text)) text)
