-- Strings of bits: how many they are, the number that they spell, and where they are cut.
use Rattle.std.proofs.Common.{◌≡◌, ℕ, zero, suc, ◌+◌, ◌*◌, ◌/◌, ◌%◌, ◌^◌, ◌<◌, Bool, true, false, replicate, List, []}
use Rattle.std.proofs.Common.{◌∷◌, ◌++◌, length, pred, refl, sym, ◌∙◌, ap, arith, inl, inr, add-one}
use Rattle.std.specs.Prelude.{◌==◌}
use Rattle.std.proofs.lemmas.Bool.{cases_eq, eq-eqb, ne_eqb}
use Rattle.std.proofs.lemmas.List.{length-append, length-replicate}
use Rattle.std.proofs.lemmas.Nat.{pow_pos, pow-add, mod-pow-add}
use Rattle.std.proofs.Math.Nat.{mod-eq_of_lt, pow-suc}
use Rattle.cv_utf7.specs.BitLists.{bits, number}

-- the lowest bits of a number are as many as the count
pub length-bits : (count n : ℕ) → length (bits count n) ≡ count
unfolding bits
length-bits zero n = refl
length-bits (suc count) n = simp length-append (omega (arith, length-bits count (n / 2)))

-- n bits spell a number below 2 ^ n
pub number_lt : (bits : List Bool) → number bits < 2 ^ length bits
number_lt [] = omega arith
number_lt (true ∷ bits) = omega (arith, number_lt bits, pow-suc 2 (length bits))
number_lt (false ∷ bits) = omega (arith, number_lt bits, pow-suc 2 (length bits))

-- the number that bits and bits after them spell
pub number-append : (a b : List Bool) → number (a ++ b) ≡ number a * 2 ^ length b + number b
number-append [] b = omega arith
number-append (true ∷ a) b =
    let e : 2 ^ length (a ++ b) ≡ 2 ^ length a * 2 ^ length b = ap (λ (n : ℕ). 2 ^ n) (length-append a b)
    ∙ pow-add 2 (length a) (length b) in
    omega (arith, number-append a b)
number-append (false ∷ a) b = omega (arith, number-append a b)

-- bits spell the low bits of their number
pub number-bits : (count n : ℕ) → number (bits count n) ≡ n % 2 ^ count
unfolding bits
number-bits zero n = omega arith
number-bits (suc count) n =
    let e : number ((n % 2 == 1) ∷ []) ≡ n % 2 = (elim (cases_eq (n % 2) 1) [
      | inl p ↦ rw (eq-eqb (n % 2) 1 p) (omega arith)
      | inr p ↦ rw (ne_eqb (n % 2) 1 p) (omega arith)
    ]) in
    rw (number-append (bits count (n / 2)) ((n % 2 == 1) ∷ []))
    (omega (arith, e, number-bits count (n / 2), mod-pow-add n count 1, ap (λ (k : ℕ). n % 2 ^ k) (add-one count)))

-- two strings of as many bits that spell the same number are the same
pub same-bits : (a b : List Bool) → length a ≡ length b → number a ≡ number b → a ≡ b
same-bits [] [] l e = refl
same-bits [] (y ∷ b) l e = absurd (omega arith)
same-bits (x ∷ a) [] l e = absurd (omega arith)
same-bits (true ∷ a) (true ∷ b) l e = ap (λ (t : List Bool). true ∷ t)
    (same-bits a b (omega arith) (let p : 2 ^ length a ≡ 2 ^ length b = ap (λ (n : ℕ). 2 ^ pred n) l in omega arith))
same-bits (false ∷ a) (false ∷ b) l e = ap (λ (t : List Bool). false ∷ t) (same-bits a b (omega arith) (omega arith))
same-bits (true ∷ a) (false ∷ b) l e = let p : 2 ^ length a ≡ 2 ^ length b = ap (λ (n : ℕ). 2 ^ pred n) l in
    absurd (omega (arith, number_lt b))
same-bits (false ∷ a) (true ∷ b) l e = let p : 2 ^ length a ≡ 2 ^ length b = ap (λ (n : ℕ). 2 ^ pred n) l in
    absurd (omega (arith, number_lt a))

-- the low count bits of two numbers are the same if the numbers are the same modulo 2 ^ count
pub bits-mod : (count a b : ℕ) → a % 2 ^ count ≡ b % 2 ^ count → bits count a ≡ bits count b
bits-mod count a b e = same-bits (bits count a) (bits count b) (length-bits count a ∙ sym (length-bits count b))
    (number-bits count a ∙ e ∙ sym (number-bits count b))

-- two numbers are the same modulo 2 ^ count if their low count bits are the same
pub mod-bits : (count a b : ℕ) → bits count a ≡ bits count b → a % 2 ^ count ≡ b % 2 ^ count
mod-bits count a b e = sym (number-bits count a) ∙ ap number e ∙ number-bits count b

-- a string of bits is its high bits and its low bits
pub bits-split : (m n v : ℕ) → bits (m + n) v ≡ bits m (v / 2 ^ n) ++ bits n v
bits-split m n v = same-bits (bits (m + n) v) (bits m (v / 2 ^ n) ++ bits n v) (rw length-append (omega
    (arith, length-bits (m + n) v, length-bits m (v / 2 ^ n), length-bits n v))) (number-bits (m + n) v ∙ mod-pow-add v
    m n ∙ sym (rw (number-append (bits m (v / 2 ^ n)) (bits n v), number-bits, number-bits, length-bits) refl))

-- two lists that are the same have the same parts, if their first parts have one length
pub append-same : (a b x y : List Bool) → a ++ x ≡ b ++ y → length a ≡ length b → (a ≡ b) × (x ≡ y)
append-same [] [] x y e l = (refl, e)
append-same [] (d ∷ b) x y e l = absurd (omega arith)
append-same (c ∷ a) [] x y e l = absurd (omega arith)
append-same (c ∷ a) (d ∷ b) x y e l =
    let h : c ≡ d = cc in
    let t : a ++ x ≡ b ++ y = cc in
    let r = append-same a b x y t (omega arith) in
    (cc (h, r.0), r.1)

-- a digit after other bits
pub bits-digit : (p v d : ℕ) → d < 64 → bits p v ++ bits 6 d ≡ bits (p + 6) (v * 64 + d)
bits-digit p v d h =
    let e : (v * 64 + d) / 2 ^ 6 ≡ v = omega arith in
    let f : bits 6 (v * 64 + d) ≡ bits 6 d = bits-mod 6 (v * 64 + d) d (omega arith) in
    sym (bits-split p 6 (v * 64 + d) ∙ rw (e, f) refl)

-- zero bits spell 0
pub number-zeros : (n : ℕ) → number (replicate n false) ≡ 0
number-zeros zero = refl
number-zeros (suc n) = omega (arith, number-zeros n)

-- the bits of 0 are zero bits
pub zero_bits : (n : ℕ) → bits n 0 ≡ replicate n false
zero_bits n = same-bits (bits n 0) (replicate n false) (length-bits n 0 ∙ sym (length-replicate n false))
    (number-bits n 0 ∙ mod-eq_of_lt (pow_pos n) ∙ sym (number-zeros n))
