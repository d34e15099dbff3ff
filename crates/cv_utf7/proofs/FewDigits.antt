-- What is next in a shifted sequence if too few digits for a code unit are next: its end, or ill-formed bytes.
use Rattle.std.proofs.Common.{◌≡◌, ℕ, zero, suc, ◌+◌, ◌-◌, ◌*◌, ◌/◌, ◌%◌, ◌^◌, ◌<◌, ◌≤◌, Bool, true, false, List, []}
use Rattle.std.proofs.Common.{◌∷◌, ◌++◌, length, take, drop, get_or, replicate, refl, sym, ◌∙◌, ap, subst, arith, inl}
use Rattle.std.proofs.Common.{inr, Some, None, zero-mul}
use Rattle.std.proofs.lemmas.Bool.{true≢false, cases_lt, cases_order}
use Rattle.std.proofs.lemmas.List.{append_assoc, length-take-le, take-take, take_more, get_or-take}
use Rattle.std.proofs.lemmas.Nat.{pow_pos, pow-add, shr_split}
use Rattle.std.proofs.Math.Nat.{mod-eq_of_lt, mod-lt, mul-le-mul_right}
use Rattle.cv_base.specs.Items.{Taken, taken, Stands, IsNext}
use Rattle.cv_base.proofs.Front.{Begins-take, Agree}
use Rattle.cv_base.specs.declared.item.Item.{Item}
use Rattle.cv_base.specs.declared.item.Item.TheVariants as item
use Rattle.cv_base.specs.declared.state.Bits.{Bits}
use Rattle.cv_base.specs.declared.state.ReadState.TheVariants as read
use Rattle.cv_utf7.specs.Sets.{is_digit}
use Rattle.cv_utf7.specs.BitLists.{bits, number, bits_of, digit_bits}
use Rattle.cv_utf7.proofs.BitStrings.{number-bits, zero_bits}
use Rattle.cv_utf7.specs.Utf7.{EndsAt, utf7_reads}
use Rattle.cv_utf7.proofs.SetMembers.{direct_lt, minus_is_no_digit}
use Rattle.cv_utf7.proofs.CodeUnits.{Leads, leads-long, leads-front}
use Rattle.cv_base.specs.Units.{high_unit, low_unit}
use Rattle.cv_utf7.proofs.Agreement.{agree-take}
use Rattle.cv_utf7.proofs.OneItem.{IsStop}
use Rattle.cv_utf7.specs.Private.ItemSteps.{IsPartial, IsEnding}
use Rattle.cv_utf7.proofs.PartialUnits.{front_none}
use Rattle.cv_utf7.proofs.Digits.{digit_bits-cut, AreDigits-at}
use Rattle.cv_utf7.proofs.ShiftItems.{ill_from}

-- the first bits of a code unit spell a number below 2 ^ count
quotient_lt : (f count : ℕ) → count ≤ 16 → f < 65536 → f / 2 ^ (16 - count) < 2 ^ count
quotient_lt f count l s = elim (cases_lt (f / 2 ^ (16 - count)) (2 ^ count)) [
  | inl k ↦ k
  | inr k ↦ absurd (
      let e : 2 ^ count * 2 ^ (16 - count) ≡ 65536 = sym (pow-add 2 count (16 - count))
      ∙ (let f : count + (16 - count) ≡ 16 = omega arith in ap (λ (n : ℕ). 2 ^ n) f) in
      let m : 2 ^ count * 2 ^ (16 - count) ≤ f / 2 ^ (16 - count) * 2 ^ (16 - count) =
      mul-le-mul_right (2 ^ (16 - count)) k in
      omega (arith, shr_split f (16 - count)))
]

-- a number between two multiples of a power has the quotient of the lower
pub quotient_is : (u value k : ℕ) → value * 2 ^ k ≤ u → u < value * 2 ^ k + 2 ^ k → u / 2 ^ k ≡ value
quotient_is u value k a b = elim (cases_order (u / 2 ^ k) value) [
  | inl e ↦ e
  | inr o ↦ elim o [
    | inl l ↦ absurd (let m : (u / 2 ^ k + 1) * 2 ^ k ≤ value * 2 ^ k = mul-le-mul_right (2 ^ k) (omega arith) in
        omega (arith, shr_split u k, mod-lt u (pow_pos k)))
    | inr l ↦ absurd (let m : (value + 1) * 2 ^ k ≤ u / 2 ^ k * 2 ^ k = mul-le-mul_right (2 ^ k) (omega arith) in
        omega (arith, shr_split u k))
  ]
]

-- a code unit that begins with the bits so far lies between the least such and the greatest
pub front_of : (p : Bits) (x : List ℕ) (n count value : ℕ) (w : List ℕ) (f : ℕ) (rest : List Bool)
    → IsPartial p x n count value → Leads p w f rest → Agree w x → f < 65536
    → (value * 2 ^ (16 - count) ≤ f) × (f < value * 2 ^ (16 - count) + 2 ^ (16 - count))
front_of p x n count value w f rest h k a s =
    let l : n ≤ length w = omega (arith, leads-long p w f rest k, h.counts, h.few) in
    let t : take n w ≡ take n x = agree-take w x a n l h.within in
    let few : count ≤ 16 = omega (arith, h.few) in
    let e : (f / 2 ^ (16 - count)) % 2 ^ count ≡ value % 2 ^ count =
    leads-front p w f n count value rest k (ap (λ (t : List ℕ). bits_of p ++ digit_bits t) t ∙ h.same) few in
    let g : f / 2 ^ (16 - count) ≡ value = sym (mod-eq_of_lt (quotient_lt f count few s)) ∙ e ∙ mod-eq_of_lt h.small in
    let r : value * 2 ^ (16 - count) + f % 2 ^ (16 - count) ≡ f =
    ap (λ (q : ℕ). q * 2 ^ (16 - count) + f % 2 ^ (16 - count)) (sym g) ∙ shr_split f (16 - count) in
    (omega arith, omega (arith, mod-lt f (pow_pos (16 - count))))

-- digits that are too few for a code unit, and then a byte that is no digit, begin with no code unit
pub stop_leads : (p : Bits) (x : List ℕ) (n count value : ℕ) (w : List ℕ) (f : ℕ) (rest : List Bool)
    → IsPartial p x n count value → n < length x → is_digit (get_or x n 0) ≡ false → Leads p w f rest → Agree w x → ⊥
stop_leads p x n count value w f rest h l d k a =
    let m : n < length w = omega (arith, leads-long p w f rest k, h.counts, h.few) in
    let e : get_or w n 0 ≡ get_or x n 0 = a n m l in
    let t = AreDigits-at w k.are_digits n m in
    (let same : true ≡ false = cc in true≢false same)

-- each of the digits at the start is a digit
pub front_at : (p : Bits) (x : List ℕ) (n count value k : ℕ) → IsPartial p x n count value → k < n
    → is_digit (get_or x k 0) ≡ true
front_at p x n count value k h l =
    let t = AreDigits-at (take n x) h.are_digits k (rw (length-take-le n x h.within) l) in
    let g : get_or (take n x) k 0 ≡ get_or x k 0 = get_or-take n x k 0 l in
    cc

-- a sequence ends where its digits end, if it does
stop_place : (p : Bits) (x : List ℕ) (n count value : ℕ) (w : List ℕ) (i : Taken) → IsPartial p x n count value
    → n < length x → is_digit (get_or x n 0) ≡ false → (s : IsStop p w i) → Agree w x → s.n ≡ n
stop_place p x n count value w i h l d s a = elim (cases_order s.n n) [
  | inl e ↦ e
  | inr o ↦ elim o [
    | inl m ↦ absurd (
        let e : get_or w s.n 0 ≡ get_or x s.n 0 = a s.n (omega (arith, s.long)) (omega arith) in
        let t = front_at p x n count value s.n h m in
        let f = s.last in
        (let same : true ≡ false = cc in true≢false same))
    | inr m ↦ absurd (
        let e : get_or w n 0 ≡ get_or x n 0 = a n (omega (arith, s.long)) l in
        let t = AreDigits-at (take s.n w) s.are_digits n (rw (length-take-le s.n w (omega (arith, s.long))) m) in
        let g : get_or (take s.n w) n 0 ≡ get_or w n 0 = get_or-take s.n w n 0 m in
        (let same : true ≡ false = cc in true≢false same))
  ]
]

zero_front : (a b : List Bool) (m : ℕ) → a ++ b ≡ replicate m false → number a ≡ 0
zero_front [] b m e = refl
zero_front (x ∷ a) b zero e = absurd (omega (arith, ap length e))
zero_front (x ∷ a) b (suc m) e = let f : x ≡ false = cc in let g : a ++ b ≡ replicate m false = cc in
    rw f (omega (arith, zero_front a b m g))

-- the first of some zero bits spell 0
pub stop_zero : (p : Bits) (x : List ℕ) (n count value : ℕ) (w : List ℕ) (i : Taken) → IsPartial p x n count value
    → (s : IsStop p w i) → Agree w x → n ≤ s.n → value ≡ 0
stop_zero p x n count value w i h s a l =
    let t : take n (take s.n w) ≡ take n x = take-take n s.n w l
    ∙ agree-take w x a n (omega (arith, s.long)) h.within in
    let e : bits count value ++ digit_bits (drop n (take s.n w)) ≡ replicate (p.count + 6 * s.n) false = ap
    (λ (b : List Bool). b ++ digit_bits (drop n (take s.n w))) (sym h.same ∙ ap (λ (t : List ℕ). bits_of p ++ digit_bits
    t) (sym t)) ∙ append_assoc (bits_of p) (digit_bits (take n (take s.n w))) (digit_bits (drop n (take s.n w)))
    ∙ ap (λ (b : List Bool). bits_of p ++ b) (sym (digit_bits-cut n (take s.n w))) ∙ s.zero_bits in
    sym (mod-eq_of_lt h.small) ∙ sym (number-bits count value)
    ∙ zero_front (bits count value) (digit_bits (drop n (take s.n w))) (p.count + 6 * s.n) e

-- bits that are left and not zero, and a byte that is no digit: ill-formed
pub few_ill : (p : Bits) (x : List ℕ) (n count value : ℕ) → IsPartial p x n count value → n < length x
    → is_digit (get_or x n 0) ≡ false → (value ≡ 0 → ⊥) → IsNext utf7_reads (read.Shifted p) x item.Ill
few_ill p x n count value h l d z = ill_from p x (omega arith)
    (λ w i m g. stop_leads p x n count value w m.c (bits_of m.next) h l d m.leads g) (λ w i m g.
    stop_leads p x n count value w (high_unit m.c) (bits 16 (low_unit m.c) ++ bits_of m.next) h l d m.leads g)
    (λ w i m g. z (stop_zero p x n count value w i h m g (omega (arith, stop_place p x n count value w i h l d m g))))

-- zero bits that are left, and a byte that ends the sequence, are its end
pub end_item : (p : Bits) (x : List ℕ) (n count value : ℕ) (i : Taken) → IsPartial p x n count value → n < length x
    → value ≡ 0 → EndsAt (n + 1) (get_or x n 0) i → Stands utf7_reads (read.Shifted p) x i
end_item p x n count value i h l z e = record {
  bytes = take (n + 1) x;
  is_item = inr (record {
    front = take n x;
    last = get_or x n 0;
    left = count;
    are_digits = h.are_digits;
    few = h.few;
    zero_bits = h.same ∙ ap (λ (v : ℕ). bits count v) z ∙ zero_bits count;
    whole = take_more x n 0 l;
    ends = rw (length-take-le (n + 1) x (omega arith)) e;
  });
  front = Begins-take (n + 1) x;
}

-- what is next if zero bits are left is what the byte after them ends
pub few_ends : (p : Bits) (x : List ℕ) (n count value used : ℕ) (r : Item) → IsPartial p x n count value
    → n < length x → is_digit (get_or x n 0) ≡ false → value ≡ 0 → used ≡ n + 1 → IsEnding (get_or x n 0) used r
    → IsNext utf7_reads (read.Shifted p) x r
few_ends p x n count value used (item.Char c m next) h l d z u e =
    end_item p x n count value _ h l z (subst (λ (k : ℕ). EndsAt k (get_or x n 0) (taken m (Some c) next)) u e)
few_ends p x n count value used (item.Shift m next) h l d z u e =
    end_item p x n count value _ h l z (subst (λ (k : ℕ). EndsAt k (get_or x n 0) (taken m None next)) u e)
few_ends p x n count value used item.Incomplete h l d z u e = absurd e
few_ends p x n count value used item.End h l d z u e = absurd e
few_ends p x n count value used item.Ill h l d z u e = ill_from p x (omega arith)
    (λ w i m g. stop_leads p x n count value w m.c (bits_of m.next) h l d m.leads g) (λ w i m g. stop_leads p x n count
    value w (high_unit m.c) (bits 16 (low_unit m.c) ++ bits_of m.next) h l d m.leads g) (λ w i m g. (
    let s : m.n ≡ n = stop_place p x n count value w i h l d m g in
    let b : get_or w m.n 0 ≡ get_or x n 0 = g m.n (omega (arith, m.long)) (omega arith)
    ∙ ap (λ (k : ℕ). get_or x k 0) s in
    let f : m.n + 1 ≡ used = omega arith in
    e i (subst (λ (k : ℕ). EndsAt k (get_or x n 0) i) f (subst (λ (k : ℕ). EndsAt (m.n + 1) k i) b m.ends))))

-- digits whose bits begin no code unit but low surrogates are ill-formed
pub few_low : (p : Bits) (x : List ℕ) (n count value from to : ℕ) → IsPartial p x n count value → length x ≤ n
    → 0 < length x → from ≡ value * 2 ^ (16 - count) → to ≡ value * 2 ^ (16 - count) + 2 ^ (16 - count) → 0xDC00 ≤ from
    → to ≤ 0xE000 → IsNext utf7_reads (read.Shifted p) x item.Ill
few_low p x n count value from to h l some e f a b = ill_from p x some (λ w i m g. (let r = front_of
    p x n count value w m.c (bits_of m.next) h m.leads g m.small in omega (arith, m.scalar.1, r.0, r.1))) (λ w i m g.
    (let r = front_of p x n count value w (high_unit m.c) (bits 16 (low_unit m.c) ++ bits_of m.next) h m.leads g
    (omega (arith, m.in_range)) in omega (arith, m.in_range, m.large, r.0, r.1))) (λ w i m g. elim (cases_lt m.n n) [
      | inl k ↦ (
          let d : get_or w m.n 0 ≡ get_or x m.n 0 = g m.n (omega (arith, m.long)) (omega (arith, h.within)) in
          let t = front_at p x n count value m.n h k in
          let z = m.last in
          (let same : true ≡ false = cc in true≢false same))
      | inr k ↦ (
          let z : value ≡ 0 = stop_zero p x n count value w i h m g k in
          let y : from ≡ 0 = e ∙ rw (z, zero-mul) refl in
          omega arith)
    ])

-- a byte that is no digit is ill-formed if the pending bits are not zero
pub stop_ill : (p : Bits) (x : List ℕ) → 0 < length x → is_digit (get_or x 0 0) ≡ false → (p.value ≡ 0 → ⊥)
    → IsNext utf7_reads (read.Shifted p) x item.Ill
stop_ill p x some d z = few_ill p x 0 p.count p.value (front_none p x p.count p.value refl refl) some d z

-- what is next if no digit is and the pending bits are zero
pub stop_ends : (p : Bits) (x : List ℕ) (r : Item) → 0 < length x → is_digit (get_or x 0 0) ≡ false → p.value ≡ 0
    → IsEnding (get_or x 0 0) 1 r → IsNext utf7_reads (read.Shifted p) x r
stop_ends p x r some d z e =
    few_ends p x 0 p.count p.value 1 r (front_none p x p.count p.value refl refl) some d z (omega arith) e

pub ruleset stops = (stop_ill, stop_ends)

pub ruleset ends = (direct_lt, minus_is_no_digit)
