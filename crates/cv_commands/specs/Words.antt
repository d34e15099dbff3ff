-- The words of a script's line, and what they mean. The form of scripts is this project's own.
use Rattle.std.specs.Prelude.{ℕ, ◌+◌, ◌*◌, ◌^◌, Bool, not, ◌&&◌, List, [], ◌∷◌, length, drop, filter, nat_lt, nat_le}
use Rattle.std.specs.Prelude.{◌==◌, bytes_eq, codes, if◌then◌else◌, Option, Some, None}
use Rattle.std.specs.Char.{is_ascii_digit, is_digit, digit_value}
use Rattle.std.specs.List.{prefix_len, list_all, slice_split}
use Rattle.std.specs.Option.{option_map}
use Rattle.std.specs.Str.Parse.{digits_value}

-- whether a byte is a space
abbrev pub is_space : ℕ → Bool
is_space byte = byte == 32

-- The words of a text: the longest runs of bytes other than spaces.
unfoldable pub words_of : List ℕ → List (List ℕ)
words_of text = filter (λ word. nat_lt 0 (length word)) (slice_split is_space text)

-- what follows the spaces at the start
abbrev pub after_spaces : List ℕ → List ℕ
after_spaces text = drop (prefix_len is_space text) text

-- what follows the first word
unfoldable pub after_word : List ℕ → List ℕ
after_word text = drop (prefix_len (λ byte. not (is_space byte)) (after_spaces text)) (after_spaces text)

-- The number that a word means. The word has only decimal digits, and the number is of 32 bits.
unfoldable pub number_in : List ℕ → Option ℕ
number_in word =
    if list_all is_ascii_digit word && nat_lt (digits_value 10 word) (2 ^ 32)
    then Some (digits_value 10 word)
    else None

-- The name that a word means: a word of at most 255 bytes is itself a name.
unfoldable pub name_in : List ℕ → Option (List ℕ)
name_in word = if nat_le (length word) 255 then Some word else None

-- The bytes that hexadecimal digits mean: two digits of either case for each byte, the higher first.
unfoldable pub bytes_by_digits : List ℕ → Option (List ℕ)
bytes_by_digits [] = Some []
bytes_by_digits (digit ∷ []) = None
bytes_by_digits (high ∷ low ∷ digits) =
    if is_digit high 16 && is_digit low 16
    then option_map (λ bytes. (16 * digit_value high + digit_value low) ∷ bytes) (bytes_by_digits digits)
    else None

-- The bytes that a word means: none for a hyphen, else those of its hexadecimal digits.
unfoldable pub bytes_in : List ℕ → Option (List ℕ)
bytes_in word = if bytes_eq word (codes "-") then Some [] else bytes_by_digits word
