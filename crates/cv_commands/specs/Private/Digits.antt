-- What hexadecimal digits mean.
use Rattle.std.specs.Prelude.{◌≡◌, ◌<◌, ◌≤◌, ℕ, Bool, true, false, List, ◌++◌, Some, None, MatchBool}
use Rattle.std.specs.Char.{is_digit, digit_value}
use Rattle.cv_commands.specs.Words.{bytes_by_digits}

-- If true, the bytes that the digits mean were appended. If false, they mean no bytes.
abbrev pub SaysPart : Bool → List ℕ → List ℕ → List ℕ → Type 0
SaysPart all digits bytes bytes' = MatchBool all
    ((more : List ℕ) × (bytes_by_digits digits ≡ Some more) × (bytes' ≡ bytes ++ more)) (bytes_by_digits digits ≡ None)

-- A number below 16 is the value of this digit. From 16 on the byte is no digit.
pub record IsValue (byte value : ℕ) : Type 0 where
  pub digit : value < 16 → (is_digit byte 16 ≡ true) × (value ≡ digit_value byte)
  pub none : 16 ≤ value → is_digit byte 16 ≡ false
