-- Blanks, words and numbers in a line.
use Rattle.std.specs.Prelude.{ℕ, ◌+◌, ◌*◌, Bool, ◌||◌, List, [], drop, fold, nat_lt, nat_eq, ◌==◌, if◌then◌else◌}
use Rattle.std.specs.Char.{digit_value, is_digit}
use Rattle.std.specs.List.{prefix_len, before_first, list_all, starts_with}

-- a blank: a space or a tab (XBD 3.74)
abbrev pub is_blank : ℕ → Bool
is_blank b = b == 32 || b == 9

-- whether the text begins with these bytes
abbrev pub begins : List ℕ → List ℕ → Bool
begins text bytes = starts_with nat_eq text bytes

-- what follows the blanks at the start
abbrev pub after_blanks : List ℕ → List ℕ
after_blanks text = drop (prefix_len is_blank text) text

-- The value after blanks: the bytes up to the next blank or the end. If no blank precedes it, it is empty.
abbrev pub value_behind : List ℕ → List ℕ
value_behind text = if nat_lt 0 (prefix_len is_blank text) then before_first is_blank (after_blanks text) else []

-- whether all are digits of a base, letters of either case being the digits from ten on
abbrev pub are_digits : ℕ → List ℕ → Bool
are_digits base digits = list_all (λ b. is_digit b base) digits

-- the number that digits write in a base
abbrev pub numeral : ℕ → List ℕ → ℕ
numeral base digits = fold (λ n b. base * n + digit_value b) 0 digits
