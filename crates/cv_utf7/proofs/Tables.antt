-- The tables are compared with the sets at each byte, by computing.
use Rattle.std.proofs.Common.{◌≡◌, ℕ, ◌<◌, ◌≤◌, Bool, true, false, ◌||◌, ◌&&◌, not, nat_eq, nat_lt, get_or, refl, sym}
use Rattle.std.proofs.Common.{◌∙◌}
use Rattle.std.proofs.Common.{arith, inl, inr}
use Rattle.std.proofs.lemmas.Bool.{ltb-true, agree_below_at, and_parts, not-true, cases_Bool, le-ltb, lt-ltb, eqb-true}
use Rattle.cv_utf7.specs.Sets.{base64, is_digit, value_of, digit_of, may_be_direct, is_direct, is_set_d, is_set_o}
use Rattle.cv_utf7.specs.Sets.{is_blank}
use Rattle.cv_utf7.specs.Private.ReadSteps.{Ends}
use Rattle.cv_utf7.proofs.SetMembers.{direct_lt, written_lt}
use Rattle.cv_utf7.specs.declared.sets.TheConstants.{VALUES, DIGITS, DIRECT}

value_agrees : ℕ → Bool
value_agrees b = not (is_digit b) || nat_eq (get_or VALUES b 0) (value_of b)

is_digit_at : (b : ℕ) → b < 256 → nat_lt (get_or VALUES b 0) 64 ≡ is_digit b
unfolding is_digit base64
is_digit_at b l = agree_below_at (λ b. nat_lt (get_or VALUES b 0) 64) is_digit 256 b refl l

agrees_at : (b : ℕ) → b < 256 → value_agrees b ≡ true
unfolding value_agrees is_digit value_of base64
agrees_at b l = agree_below_at value_agrees (λ b. true) 256 b refl l

value_at : (b : ℕ) → b < 256 → is_digit b ≡ true → get_or VALUES b 0 ≡ value_of b
unfolding value_agrees
value_at b l d = eqb-true _ _ (rw d at (agrees_at b l))

-- no value is above 127
pub value_few : (b : ℕ) → b < 256 → get_or VALUES b 0 < 128
value_few b l = ltb-true _ _ (agree_below_at (λ b. nat_lt (get_or VALUES b 0) 128) (λ b. true) 256 b refl l)

-- a byte with a value below 64 is a digit, and that is its value
pub digit_some : (b : ℕ) → b < 256 → get_or VALUES b 0 < 64 → (is_digit b ≡ true) × (get_or VALUES b 0 ≡ value_of b)
digit_some b l h = let d : is_digit b ≡ true = sym (is_digit_at b l) ∙ lt-ltb _ _ h in (d, value_at b l d)

-- the table marks what ends a sequence
ends_at : (b : ℕ) → b < 256 → nat_eq (get_or VALUES b 0) 65 ≡ (may_be_direct b && not (is_digit b))
unfolding is_digit base64 may_be_direct is_set_d is_set_o is_blank
ends_at b l =
    agree_below_at (λ b. nat_eq (get_or VALUES b 0) 65) (λ b. may_be_direct b && not (is_digit b)) 256 b refl l

pub ends_some : (b : ℕ) → b < 256 → nat_eq (get_or VALUES b 0) 65 ≡ true → Ends b
ends_some b l e = let (direct, other) = and_parts _ _ (sym (ends_at b l) ∙ e) in (direct, not-true _ other)

pub ends_all : (b : ℕ) → b < 256 → Ends b → nat_eq (get_or VALUES b 0) 65 ≡ true
ends_all b l e = ends_at b l ∙ rw (e.0, e.1) refl

-- a byte with no value is no digit
pub digit_none : (b : ℕ) → b < 256 → 64 ≤ get_or VALUES b 0 → is_digit b ≡ false
digit_none b l h = sym (is_digit_at b l) ∙ le-ltb _ _ h

-- the table of digits has the digit of each value
pub digit_at : (v : ℕ) → v < 64 → get_or DIGITS v 0 ≡ digit_of v
unfolding digit_of base64
digit_at v l = eqb-true _ _ (agree_below_at (λ v. nat_eq (get_or DIGITS v 0) (digit_of v)) (λ v. true) 64 v refl l)

-- the table of direct characters marks what may be direct
pub direct_at : (b : ℕ) → b < 128 → not (nat_eq (get_or DIRECT b 0) 0) ≡ may_be_direct b
unfolding may_be_direct is_set_d is_set_o is_blank
direct_at b l = agree_below_at (λ b. not (nat_eq (get_or DIRECT b 0) 0)) may_be_direct 128 b refl l

-- the table of direct characters marks what is written as itself
pub written_at : (b : ℕ) → b < 128 → nat_eq (get_or DIRECT b 0) 3 ≡ is_direct b
unfolding is_direct is_set_d is_set_o is_blank
written_at b l = agree_below_at (λ b. nat_eq (get_or DIRECT b 0) 3) is_direct 128 b refl l

-- no byte above ASCII may be direct
pub direct_above : (b : ℕ) → 128 ≤ b → nat_lt b 128 ≡ may_be_direct b
direct_above b l = elim (cases_Bool
    (may_be_direct b)) [ inl e ↦ absurd (omega (arith, direct_lt b e)) | inr e ↦ le-ltb b 128 l ∙ sym e ]

-- no character above ASCII is written as itself
pub written_above : (b : ℕ) → 128 ≤ b → nat_lt b 128 ≡ is_direct b
written_above b l =
    elim (cases_Bool (is_direct b)) [ inl e ↦ absurd (omega (arith, written_lt b e)) | inr e ↦ le-ltb b 128 l ∙ sym e ]
