-- What is in the sets, and what is not.
use Rattle.std.proofs.Common.{◌≡◌, ℕ, ◌<◌, true, false, nat_eq, List, [], ◌∷◌, length, refl, sym, arith, inl, inr}
use Rattle.std.specs.Prelude.{◌==◌}
use Rattle.std.specs.Char.{char_set_contains}
use Rattle.std.specs.List.{position_or_len}
use Rattle.std.proofs.lemmas.Bool.{cases_Bool, true≢false, agree_below_at, eqb-true}
use Rattle.std.proofs.lemmas.Bool.Decides.{nat_tests}
use Rattle.cv_utf7.specs.Sets.{base64, is_digit, value_of, digit_of, may_be_direct, is_direct, is_set_d, is_set_o}
use Rattle.cv_utf7.specs.Sets.{is_blank}

-- what a list contains is at an index of it
place_lt : (xs : List ℕ) (c : ℕ) → char_set_contains xs c ≡ true → position_or_len (λ d. d == c) xs < length xs
place_lt [] c e = absurd (true≢false (sym e))
place_lt (x ∷ xs) c e = elim (cases_Bool (x == c)) [
  | inl f ↦ rw f (omega arith)
  | inr f ↦ rw f (let l : position_or_len (λ d. d == c) xs < length xs = place_lt xs c (rw f at e) in omega arith)
]

-- a value is six bits
pub value_lt : (b : ℕ) → is_digit b ≡ true → value_of b < 64
unfolding is_digit value_of base64
value_lt b e = place_lt base64 b e

-- `+` is not direct
pub plus_is_not_direct : may_be_direct 43 ≡ false
unfolding may_be_direct is_set_d is_set_o is_blank
plus_is_not_direct = refl

-- `-` is no digit
pub minus_is_no_digit : is_digit 45 ≡ false
unfolding is_digit base64
minus_is_no_digit = refl

-- the digit of a value has that value
pub value-digit : (v : ℕ) → v < 64 → value_of (digit_of v) ≡ v
unfolding value_of digit_of base64
value-digit v h = eqb-true _ _ (agree_below_at (λ v. nat_eq (value_of (digit_of v)) v) (λ v. true) 64 v refl h)

-- the digit of a value is a digit
pub digit-digit : (v : ℕ) → v < 64 → is_digit (digit_of v) ≡ true
unfolding is_digit digit_of base64
digit-digit v h = agree_below_at (λ v. is_digit (digit_of v)) (λ v. true) 64 v refl h

-- a direct byte is ASCII
pub direct_lt : (b : ℕ) → may_be_direct b ≡ true → b < 128
unfolding may_be_direct is_set_d is_set_o is_blank
direct_lt b h = grind (arith, nat_tests)

-- a character that is written as itself is ASCII
pub written_lt : (c : ℕ) → is_direct c ≡ true → c < 128
unfolding is_direct is_set_d is_blank
written_lt c h = grind (arith, nat_tests)
