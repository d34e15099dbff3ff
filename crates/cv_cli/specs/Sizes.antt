-- The size that a word of the command line gives.
use Rattle.std.specs.Prelude.{ℕ, ◌*◌, ◌^◌, List, [], nat_lt, take, drop, codes, bytes_eq, if◌then◌else◌}
use Rattle.std.specs.Prelude.{Option, Some, None}
use Rattle.std.specs.Char.{is_ascii_digit}
use Rattle.std.specs.List.{prefix_len}
use Rattle.std.specs.Option.{option_and_then}
use Rattle.std.specs.Str.Parse.{digits_value}

-- A number, if it fits 64 bits.
abbrev pub fitting : ℕ → Option ℕ
fitting number = if nat_lt number (2 ^ 64) then Some number else None

-- What the letter after a number means: 1 without a letter, a power of 1,024 for K, M or G. It is 0 for any other.
abbrev pub multiplier_of : List ℕ → ℕ
multiplier_of letter =
    if bytes_eq letter [] then 1 else
    if bytes_eq letter (codes "K") then 2 ^ 10 else
    if bytes_eq letter (codes "M") then 2 ^ 20 else
    if bytes_eq letter (codes "G") then 2 ^ 30 else 0

-- How many decimal digits a word begins with.
abbrev pub digit_count : List ℕ → ℕ
digit_count word = prefix_len is_ascii_digit word

-- A size, if it is not 0 and fits 64 bits.
abbrev pub positive : ℕ → Option ℕ
positive size = if nat_lt 0 size then fitting size else None

-- The number that a word begins with, times the unit that follows it. Without digits, or with another unit, the product
-- is 0: `None`.
abbrev pub size_in : List ℕ → Option ℕ
size_in word = option_and_then (λ number. positive (number * multiplier_of (drop (digit_count word) word)))
    (fitting (digits_value 10 (take (digit_count word) word)))
