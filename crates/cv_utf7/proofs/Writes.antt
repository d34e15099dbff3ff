-- What is written, by the tests of the code.
use Rattle.std.proofs.Common.{◌≡◌, ℕ, zero, suc, ◌+◌, ◌*◌, ◌<◌, ◌≤◌, Bool, true, false, List, [], ◌∷◌, ◌++◌, length}
use Rattle.std.proofs.Common.{replicate, refl, ap, arith, inl, inr}
use Rattle.std.specs.Prelude.{◌==◌}
use Rattle.std.proofs.lemmas.Bool.{cases_Bool, ne_eqb}
use Rattle.std.proofs.lemmas.List.{length-append}
use Rattle.cv_base.specs.Codecs.{WritesAtMost}
use Rattle.cv_base.specs.declared.state.Bits.{Bits}
use Rattle.cv_base.specs.declared.state.WriteState.{WriteState}
use Rattle.cv_base.specs.declared.state.WriteState.TheVariants as write
use Rattle.cv_utf7.specs.Sets.{is_direct}
use Rattle.cv_utf7.specs.BitLists.{bits, bits_of, character_bits, digits}
use Rattle.cv_utf7.proofs.BitStrings.{length-bits}
use Rattle.cv_utf7.proofs.SetMembers.{written_lt}
use Rattle.cv_utf7.proofs.CodeUnits.{character_length}
use Rattle.cv_utf7.proofs.PendingBits.{no_bits}
use Rattle.cv_utf7.specs.Utf7.{plus, minus, written_bits, last_digit, utf7_closes, writes_at_start, writes_in_shift}
use Rattle.cv_utf7.specs.Utf7.{utf7_writes}

-- a direct character outside a sequence is itself
pub start_direct : (c : ℕ) → is_direct c ≡ true → writes_at_start c ≡ (c ∷ [], write.Start)
start_direct c e = rw e refl

-- `+` outside a sequence is `+-`
pub start_plus : is_direct plus ≡ false → writes_at_start plus ≡ (plus ∷ minus ∷ [], write.Start)
start_plus e = rw e refl

-- another character outside a sequence begins one
pub start_other : (c : ℕ) (all : List Bool) (n : List ℕ × WriteState) → is_direct c ≡ false → (c ≡ plus → ⊥)
    → all ≡ character_bits c → written_bits all ≡ n → writes_at_start c ≡ (plus ∷ n.0, n.1)
start_other c all n e f g h = rw (e, ne_eqb c plus f, ← g)
    (ap (λ (p : List ℕ × WriteState). let q : List ℕ × WriteState = (plus ∷ p.0, p.1) in q) h)

-- a direct character in a sequence closes it
pub shift_direct : (p : Bits) (c : ℕ) → is_direct c ≡ true
    → writes_in_shift p c ≡ (utf7_closes (write.Shifted p) ++ c ∷ [], write.Start)
shift_direct p c e = rw e refl

-- another character in a sequence is digits
pub shift_other : (p : Bits) (c : ℕ) → is_direct c ≡ false
    → writes_in_shift p c ≡ written_bits (bits_of p ++ character_bits c)
shift_other p c e = rw e refl

none_before : (n : ℕ) (l : List Bool) → bits 0 n ++ l ≡ l
unfolding bits
none_before n l = refl

-- a character that begins a shifted sequence
pub start_behind : (c : ℕ) (n : List ℕ × WriteState) → is_direct c ≡ false → (c ≡ plus → ⊥)
    → written_bits (bits 0 0 ++ character_bits c) ≡ n → writes_at_start c ≡ (plus ∷ n.0, n.1)
start_behind c n e f h = start_other c (bits 0 0 ++ character_bits c) n e f (none_before 0 (character_bits c)) h

digits_at_most : (n : ℕ) (l : List Bool) → length l < 6 * n + 6 → length (digits l) ≤ n
digits_at_most n [] h = omega arith
digits_at_most n (a ∷ []) h = omega arith
digits_at_most n (a ∷ b ∷ []) h = omega arith
digits_at_most n (a ∷ b ∷ c ∷ []) h = omega arith
digits_at_most n (a ∷ b ∷ c ∷ d ∷ []) h = omega arith
digits_at_most n (a ∷ b ∷ c ∷ d ∷ f ∷ []) h = omega arith
digits_at_most zero (a ∷ b ∷ c ∷ d ∷ f ∷ g ∷ l) h = absurd (omega arith)
digits_at_most (suc n) (a ∷ b ∷ c ∷ d ∷ f ∷ g ∷ l) h = omega (arith, digits_at_most n l (omega arith))

-- there is at most one closing digit
pub last_digit_long : (p : Bits) → length (last_digit (bits_of p)) ≤ 1
last_digit_long p = digits_at_most 1 (bits_of p ++ replicate 5 false)
    (rw length-append (omega (arith, length-bits p.count p.value, p.few)))

-- what closes a sequence is two bytes at most
pub closes_long : (p : Bits) → length (utf7_closes (write.Shifted p)) ≤ 2
closes_long p = rw length-append (omega (arith, last_digit_long p))

-- a character outside a sequence is six bytes at most
pub starts_most : (c : ℕ) → length (writes_at_start c).0 ≤ 6
starts_most c = elim (cases_Bool (is_direct c)) [
  | inl e ↦ rw e (omega arith)
  | inr e ↦ rw e (elim (cases_Bool (c == plus)) [
    | inl f ↦ rw f (omega arith)
    | inr f ↦ rw f (omega (arith, digits_at_most 5 (character_bits c) (omega (arith, character_length c))))
  ])
]

-- a character in a sequence is six bytes at most
pub shifts_most : (p : Bits) (c : ℕ) → length (writes_in_shift p c).0 ≤ 6
shifts_most p c = elim (cases_Bool (is_direct c)) [
  | inl e ↦ rw (e, length-append) (rw length-append (omega (arith, last_digit_long p)))
  | inr e ↦ rw e (digits_at_most 6 (bits_of p ++ character_bits c)
      (rw length-append (omega (arith, character_length c, length-bits p.count p.value, p.few))))
]

-- a character is six bytes at most
pub at_most_six : WritesAtMost 6 utf7_writes
at_most_six write.Start c = starts_most c
at_most_six write.Marked c = starts_most c
at_most_six (write.Shifted p) c = shifts_most p c

pub ruleset starts = (start_direct, start_plus, start_other, no_bits, written_lt)

pub ruleset writes = (shift_direct, shift_other, written_lt, closes_long)

pub ruleset most = (at_most_six, last_digit_long)
