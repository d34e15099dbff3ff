-- Mapping lines of the commonest form: contracts of private functions cite this.
use Rattle.std.specs.Prelude.{◌≡◌, ◌≢◌, ℕ, ◌≤◌, true, false, List, ◌∷◌, ◌++◌, length}
use Rattle.std.specs.Char.{digit_value}
use Rattle.cv_lex.specs.Words.{is_blank, are_digits, numeral}

-- The text is `U`, the four to eight hexadecimal digits of a number, `>`, and what follows.
pub record HasNumber (text : List ℕ) (number : ℕ) (rest : List ℕ) : Type 0 where
  pub digits : List ℕ
  pub is : text ≡ 85 ∷ digits ++ 62 ∷ rest
  pub four : 4 ≤ length digits
  pub eight : length digits ≤ 8
  pub all : are_digits 16 digits ≡ true
  pub value : number ≡ numeral 16 digits

-- The escape character is no blank, and not in the part of such a text that precedes `rest`.
pub record IsApart (escape : ℕ) : Type 0 where
  pub high : 36 ≤ digit_value escape
  pub visible : is_blank escape ≡ false
  pub no_close : escape ≢ 62
