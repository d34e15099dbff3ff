-- The digits of bits, and the bits of digits.
use Rattle.std.proofs.Common.{◌≤◌, ◌+◌, zero, suc, take, drop, get_or, append_assoc, ◌≡◌, ℕ, ◌*◌, ◌%◌, ◌^◌, ◌<◌, Bool}
use Rattle.std.proofs.Common.{true, List, [], ◌∷◌, ◌++◌, length, refl, sym, ◌∙◌, ap, arith, length-take, length-drop}
use Rattle.std.proofs.Common.{get_or-drop}
use Rattle.std.proofs.lemmas.List.{length-append, take-append-drop, get_or-take}
use Rattle.std.proofs.Math.Nat.{mod-eq_of_lt}
use Rattle.std.proofs.lemmas.List.Elements.{All-cons, All-append}
use Rattle.cv_utf7.specs.Sets.{is_digit, value_of, digit_of}
use Rattle.cv_utf7.specs.BitLists.{bits, number, AreDigits, digit_bits, digits}
use Rattle.cv_utf7.proofs.BitStrings.{number_lt, length-bits, number-bits, same-bits}
use Rattle.cv_utf7.proofs.SetMembers.{value-digit, digit-digit}

-- six bits a digit
pub length-digits : (bytes : List ℕ) → length (digit_bits bytes) ≡ 6 * length bytes
length-digits [] = refl
length-digits (b ∷ bytes) = simp length-append (omega (arith, length-digits bytes, length-bits 6))

-- six bits are those of their digit
pub six : (l : List Bool) → length l ≡ 6
    → (is_digit (digit_of (number l)) ≡ true) × (bits 6 (value_of (digit_of (number l))) ≡ l)
six l e =
    let h : number l < 2 ^ length l = number_lt l in
    let k : number l < 64 = omega (arith, ap (λ (n : ℕ). 2 ^ n) e) in (
      digit-digit (number l) k,
      same-bits (bits 6 (value_of (digit_of (number l)))) l (length-bits 6 (value_of (digit_of (number l))) ∙ sym e)
          (number-bits 6 (value_of (digit_of (number l))) ∙ ap (λ (v : ℕ). v % 2 ^ 6) (value-digit (number l) k)
          ∙ mod-eq_of_lt k),
    )

-- six bits or more have a digit
pub some_digits : (l : List Bool) → 6 ≤ length l → 0 < length (digits l)
some_digits [] h = absurd (omega arith)
some_digits (a ∷ []) h = absurd (omega arith)
some_digits (a ∷ b ∷ []) h = absurd (omega arith)
some_digits (a ∷ b ∷ c ∷ []) h = absurd (omega arith)
some_digits (a ∷ b ∷ c ∷ d ∷ []) h = absurd (omega arith)
some_digits (a ∷ b ∷ c ∷ d ∷ f ∷ []) h = absurd (omega arith)
some_digits (a ∷ b ∷ c ∷ d ∷ f ∷ g ∷ l) h = omega arith

-- no bytes are digits
pub no_digits : AreDigits []
no_digits k d l = absurd (omega arith)

-- a digit before digits
pub AreDigits-cons : (b : ℕ) (w : List ℕ) → is_digit b ≡ true → AreDigits w → AreDigits (b ∷ w)
AreDigits-cons b w e d = All-cons (λ b. is_digit b ≡ true) b w e d

-- digits and digits are digits
pub AreDigits-append : (a b : List ℕ) → AreDigits a → AreDigits b → AreDigits (a ++ b)
AreDigits-append a b p q = All-append (λ b. is_digit b ≡ true) a b p q

-- each of the digits is a digit
pub AreDigits-at : (w : List ℕ) → AreDigits w → (k : ℕ) → k < length w → is_digit (get_or w k 0) ≡ true
AreDigits-at w d k l = d k 0 l

-- a prefix of digits is digits
pub AreDigits-take : (n : ℕ) (w : List ℕ) → AreDigits w → AreDigits (take n w)
AreDigits-take n w d k o l =
    let e : k < n = omega (arith, length-take n w) in
    let h : k < length w = omega (arith, length-take n w) in
    rw (get_or-take n w k o e) (d k o h)

-- what follows a prefix of digits is digits
pub AreDigits-drop : (n : ℕ) (w : List ℕ) → AreDigits w → AreDigits (drop n w)
AreDigits-drop n w d k o l = rw (get_or-drop n w k o) (d (n + k) o (omega (arith, length-drop n w)))

-- bits whose count six divides are those of their digits
pub digits-bits : (m : ℕ) (l : List Bool) → length l ≡ 6 * m → AreDigits (digits l) × (digit_bits (digits l) ≡ l)
digits-bits zero [] e = (no_digits, refl)
digits-bits zero (a ∷ l) e = absurd (omega arith)
digits-bits (suc m) [] e = absurd (omega arith)
digits-bits (suc m) (a ∷ []) e = absurd (omega arith)
digits-bits (suc m) (a ∷ b ∷ []) e = absurd (omega arith)
digits-bits (suc m) (a ∷ b ∷ c ∷ []) e = absurd (omega arith)
digits-bits (suc m) (a ∷ b ∷ c ∷ d ∷ []) e = absurd (omega arith)
digits-bits (suc m) (a ∷ b ∷ c ∷ d ∷ f ∷ []) e = absurd (omega arith)
digits-bits (suc m) (a ∷ b ∷ c ∷ d ∷ f ∷ g ∷ l) e =
    let s = six (a ∷ b ∷ c ∷ d ∷ f ∷ g ∷ []) refl in
    let r = digits-bits m l (omega arith) in (
      AreDigits-cons _ _ s.0 r.0,
      ap (λ (t : List Bool). t ++ digit_bits (digits l)) s.1 ∙ ap (λ (t : List Bool). a ∷ b ∷ c ∷ d ∷ f ∷ g ∷ t) r.1,
    )

-- the bits of digits and of those after them
pub digit_bits-append : (a b : List ℕ) → digit_bits (a ++ b) ≡ digit_bits a ++ digit_bits b
digit_bits-append [] b = refl
digit_bits-append (x ∷ a) b = ap (λ (t : List Bool). bits 6 (value_of x) ++ t) (digit_bits-append a b)
    ∙ sym (append_assoc (bits 6 (value_of x)) (digit_bits a) (digit_bits b))

-- the bits of digits are those of a prefix and of the rest
pub digit_bits-cut : (n : ℕ) (w : List ℕ) → digit_bits w ≡ digit_bits (take n w) ++ digit_bits (drop n w)
digit_bits-cut n w = sym (ap digit_bits (take-append-drop n w)) ∙ digit_bits-append (take n w) (drop n w)
