-- Pending bits, and the lists of bits that make them.
use Rattle.std.proofs.Common.{◌≡◌, ℕ, ◌%◌, ◌^◌, ◌<◌, ◌≤◌, Bool, List, [], ◌∷◌, length, refl, ap, ◌∙◌, subst, arith, sym}
use Rattle.std.proofs.Math.Nat.{mod-eq_of_lt}
use Rattle.std.proofs.Props.{props}
use Rattle.cv_base.specs.declared.state.Bits.{Bits}
use Rattle.cv_utf7.specs.BitLists.{bits, number, bits_of}
use Rattle.cv_utf7.proofs.BitStrings.{number_lt, length-bits, number-bits, same-bits}
use Rattle.cv_utf7.specs.PendingBits.{pending_of}

-- the fields of pending bits say all of them
same-fields : (c v : ℕ) (h i : c ≤ 4) (j k : c % 2 ≡ 0) (l m : v < 2 ^ c)
    → (let x : Bits = record { count = c; value = v; few = h; even = j; in_range = l } in
    let y : Bits = record { count = c; value = v; few = i; even = k; in_range = m } in x ≡ y)
same-fields c v h i j k l m =
    let s : IsProp (c ≤ 4) = hlevel props in
    let t : IsProp (c % 2 ≡ 0) = hlevel props in
    let u : IsProp (v < 2 ^ c) = hlevel props in
    let p : h ≡ i = s h i in
    let q : j ≡ k = t j k in
    let r : l ≡ m = u l m in
    cc

-- pending bits of one count and one value are the same
pub same-pending : (a b : Bits) → a.count ≡ b.count → a.value ≡ b.value → a ≡ b
same-pending a b e f =
    let P : ℕ → ℕ → Type 0 = λ c v. (h : c ≤ 4) (j : c % 2 ≡ 0) (l : v < 2 ^ c)
    → (let x : Bits = record { count = c; value = v; few = h; even = j; in_range = l } in a ≡ x) in
    subst (λ (v : ℕ). P b.count v) f (subst (λ (c : ℕ). P c a.value) e
    (λ h j l. same-fields a.count a.value a.few h a.even j a.in_range l)) b.few b.even b.in_range

-- pending bits with one list are the same
pub bits_of-same : (a b : Bits) → bits_of a ≡ bits_of b → a ≡ b
bits_of-same a b e =
    let c : a.count ≡ b.count = sym (length-bits a.count a.value) ∙ ap length e ∙ length-bits b.count b.value in
    let n : a.value % 2 ^ a.count ≡ b.value % 2 ^ b.count = sym (number-bits a.count a.value) ∙ ap number e
    ∙ number-bits b.count b.value in
    same-pending a b c (sym (mod-eq_of_lt {n = a.value} {m = 2 ^ a.count} a.in_range) ∙ n
    ∙ mod-eq_of_lt {n = b.value} {m = 2 ^ b.count} b.in_range)

-- a list of as many bits as pending bits, which spells their value, makes them
pub pending_is : (l : List Bool) (next : Bits) → length l ≡ next.count → number l ≡ next.value → pending_of l ≡ next
unfolding pending_of
pending_is [] next e f = same-pending _ next e f
pending_is (a ∷ []) next e f = absurd (omega (arith, next.even))
pending_is (a ∷ b ∷ []) next e f = same-pending _ next e (mod-eq_of_lt (number_lt (a ∷ b ∷ [])) ∙ f)
pending_is (a ∷ b ∷ c ∷ []) next e f = absurd (omega (arith, next.even))
pending_is (a ∷ b ∷ c ∷ d ∷ []) next e f = same-pending _ next e (mod-eq_of_lt (number_lt (a ∷ b ∷ c ∷ d ∷ [])) ∙ f)
pending_is (a ∷ b ∷ c ∷ d ∷ g ∷ l) next e f = absurd (omega (arith, next.few))

-- if no bits are pending, their number is 0
pub no_value : (pending : Bits) → pending.count ≡ 0 → pending.value ≡ 0
no_value pending e = let h : pending.value < 1 = subst (λ (k : ℕ). pending.value < 2 ^ k) e pending.in_range in
    omega arith

-- if no bits are pending, they are made of no bits
pub none_pending : (next : Bits) → next.count ≡ 0 → next ≡ pending_of []
none_pending next e = sym (pending_is [] next (sym e) (sym (no_value next e)))

-- if no bits are pending, their list is empty
pub no_bits : (pending : Bits) → pending.count ≡ 0 → bits_of pending ≡ []
unfolding bits
no_bits pending e = ap (λ (n : ℕ). bits n pending.value) e

-- the number of some bits has these as its lowest bits
bits-number : (l : List Bool) → bits (length l) (number l % 2 ^ length l) ≡ l
bits-number l =
    let low : number l % 2 ^ length l ≡ number l = mod-eq_of_lt (number_lt l) in
    same-bits (bits (length l) (number l % 2 ^ length l)) l (length-bits (length l) (number l % 2 ^ length l))
    (number-bits (length l) (number l % 2 ^ length l) ∙ ap (λ (n : ℕ). n % 2 ^ length l) low ∙ low)

-- two or four bits, or none, are those of the pending bits that they make
pub pending_bits : (q : List Bool) → length q < 6 → length q % 2 ≡ 0 → bits_of (pending_of q) ≡ q
unfolding bits pending_of
pending_bits [] l e = refl
pending_bits (a ∷ []) l e = absurd (omega arith)
pending_bits (a ∷ b ∷ []) l e = bits-number (a ∷ b ∷ [])
pending_bits (a ∷ b ∷ c ∷ []) l e = absurd (omega arith)
pending_bits (a ∷ b ∷ c ∷ d ∷ []) l e = bits-number (a ∷ b ∷ c ∷ d ∷ [])
pending_bits (a ∷ b ∷ c ∷ d ∷ f ∷ []) l e = absurd (omega arith)
pending_bits (a ∷ b ∷ c ∷ d ∷ f ∷ g ∷ q) l e = absurd (omega arith)
