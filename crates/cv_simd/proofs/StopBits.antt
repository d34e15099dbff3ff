-- The bits of sixteen bytes and one set bit after them: the first that is set.
use Rattle.std.proofs.Common.{◌≡◌, ℕ, ◌/◌, ◌%◌, ◌^◌, inl, inr, ◌+◌, ◌-◌, ◌<◌, ◌≤◌, sym, ◌∙◌, ap, arith, w64, bit_or}
use Rattle.std.proofs.lemmas.Nat.{pow-add}
use Rattle.std.proofs.Math.Nat.{div-div-eq-div-mul, div-le_self}
use Rattle.std.specs.Int.{bit_at, trailing_zeros}
use Rattle.std.proofs.lemmas.Nat.Bits.{bit_at-zero, bit_at-trailing_zeros, bit_at_or, bit_at-pow_same}
use Rattle.std.proofs.lemmas.Nat.Bits.{bit_at-pow_other, bit_at-lt}
use Rattle.std.proofs.lemmas.Bool.{cases_lt}

-- bit 16 is set
pub one_behind : (stops : ℕ) → bit_at (bit_or stops 0x10000) 16 ≡ 1
one_behind stops = omega (arith, bit_at_or stops 0x10000 16, bit_at-pow_same 16, bit_at-lt stops 16)

-- the sixteen bits below it stay
pub others_stay : (stops i : ℕ) → i < 16 → bit_at (bit_or stops 0x10000) i ≡ bit_at stops i
others_stay stops i l = omega (arith, bit_at_or stops 0x10000 i, bit_at-pow_other 16 i (λ e. omega (arith, e)))

-- a bit from an index on is one of the shifted bits
bit_on : (stops place i : ℕ) → bit_at stops (place + i) ≡ bit_at (stops / 2 ^ place) i
bit_on stops place i =
    let e : stops / 2 ^ (place + i) ≡ stops / 2 ^ place / 2 ^ i = ap (λ (k : ℕ). stops / k) (pow-add 2 place i)
    ∙ sym (div-div-eq-div-mul stops (2 ^ place) (2 ^ i)) in
    ap (λ (k : ℕ). k % 2) e

-- from an index on there is a bit that is set
some_on : (stops place : ℕ) → place ≤ 16 → bit_at stops 16 ≡ 1 → stops / 2 ^ place ≡ 0 → ⊥
some_on stops place h set z =
    let there : place + (16 - place) ≡ 16 = omega arith in
    omega (
      arith,
      set,
      ap (bit_at stops) (sym there) ∙ bit_on stops place (16 - place) ∙ ap (λ (n : ℕ). bit_at n (16 - place)) z
          ∙ bit_at-zero (16 - place),
    )

-- all bits before the first that is set are clear
pub run_clear : (stops place : ℕ) → stops < 2 ^ 64 → place ≤ 16 → bit_at stops 16 ≡ 1 → (i : ℕ)
    → i < trailing_zeros w64 (stops / 2 ^ place) → bit_at stops (place + i) ≡ 0
run_clear stops place l h set i k = bit_on stops place i ∙ (bit_at-trailing_zeros w64 (stops / 2 ^ place)
    (omega (arith, some_on stops place h set)) (omega (arith, l, div-le_self stops (2 ^ place)))).2 i k

-- that bit is set
pub run_ends : (stops place : ℕ) → stops < 2 ^ 64 → place ≤ 16 → bit_at stops 16 ≡ 1
    → bit_at stops (place + trailing_zeros w64 (stops / 2 ^ place)) ≡ 1
run_ends stops place l h set = bit_on stops place (trailing_zeros w64 (stops / 2 ^ place)) ∙ (bit_at-trailing_zeros w64
    (stops / 2 ^ place) (omega (arith, some_on stops place h set)) (omega (arith, l, div-le_self stops (2 ^ place)))).1

-- it is bit 16 at the latest
pub run_within : (stops place : ℕ) → stops < 2 ^ 64 → place ≤ 16 → bit_at stops 16 ≡ 1
    → place + trailing_zeros w64 (stops / 2 ^ place) ≤ 16
run_within stops place l h set = elim (cases_lt (16 - place) (trailing_zeros w64 (stops / 2 ^ place))) [
  | inl k ↦ (
      let there : place + (16 - place) ≡ 16 = omega arith in
      absurd (omega (arith, set, ap (bit_at stops) (sym there) ∙ run_clear stops place l h set (16 - place) k)))
  | inr m ↦ omega arith
]
