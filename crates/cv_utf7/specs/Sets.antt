-- The sets of characters of UTF-7 (RFC 2152, "UTF-7 Definition").
use Rattle.std.specs.Prelude.{ℕ, Bool, ◌||◌, ◌==◌, List, codes}
use Rattle.std.specs.Char.{is_ascii_alphanumeric, char_set_contains}
use Rattle.std.specs.List.{slice_index, position_or_len}

-- set D, the direct characters: letters, digits, and nine signs
unfoldable pub is_set_d : ℕ → Bool
is_set_d c = is_ascii_alphanumeric c || char_set_contains (codes "'(),-./:?") c

-- set O, the optional direct characters
unfoldable pub is_set_o : ℕ → Bool
is_set_o c = char_set_contains (codes "!\"#$%&*;<=>@[]^_`{|}") c

-- space, tab, carriage return and line feed (rule 3)
unfoldable pub is_blank : ℕ → Bool
is_blank c = char_set_contains (codes " \t\r\n") c

-- what may be itself in a text that is read (rules 1 and 3)
unfoldable pub may_be_direct : ℕ → Bool
may_be_direct c = is_set_d c || is_set_o c || is_blank c

-- what is itself in a text that is written: no optional character is
unfoldable pub is_direct : ℕ → Bool
is_direct c = is_set_d c || is_blank c

-- the digits of modified Base64 in the order of their values (RFC 2045, Table 1)
unfoldable pub base64 : List ℕ
base64 = codes "ABCDEFGHIJKLMNOPQRSTUVWXYZabcdefghijklmnopqrstuvwxyz0123456789+/"

-- set B, the digits
unfoldable pub is_digit : ℕ → Bool
is_digit c = char_set_contains base64 c

-- the value of a digit
unfoldable pub value_of : ℕ → ℕ
value_of c = position_or_len (λ digit. digit == c) base64

-- the digit of a value
unfoldable pub digit_of : ℕ → ℕ
digit_of value = slice_index base64 value
