-- The parts of the reader find what they say.
use Rattle.std.proofs.Common.{◌≡◌, ℕ, ◌+◌, ◌-◌, ◌*◌, ◌/◌, ◌%◌, ◌^◌, ◌<◌, ◌≤◌, Bool, true, false, List, [], ◌∷◌, ◌++◌}
use Rattle.std.proofs.Common.{length, take, get_or, refl, sym, ◌∙◌, ap, subst, arith, inl, inr}
use Rattle.std.proofs.lemmas.Bool.{true≢false, cases_lt}
use Rattle.std.proofs.lemmas.List.{append_assoc, append-nil, take_more, length-take, get_or-take}
use Rattle.std.proofs.lemmas.Nat.{pow-add, one_shl}
use Rattle.std.proofs.Math.Nat.{mul-le-mul_right, pow-le-pow_right}
use Rattle.cv_base.specs.declared.state.Bits.{Bits}
use Rattle.cv_utf7.specs.Sets.{is_digit, value_of}
use Rattle.cv_utf7.specs.BitLists.{bits, bits_of, AreDigits, digit_bits}
use Rattle.cv_utf7.proofs.BitStrings.{bits-digit, bits-split, bits-mod}
use Rattle.cv_utf7.proofs.SetMembers.{value_lt}
use Rattle.cv_utf7.proofs.Digits.{digit_bits-append, no_digits, AreDigits-cons, AreDigits-append, AreDigits-at}
use Rattle.cv_utf7.specs.Private.ItemSteps.{IsUnit, NoUnit, IsPartial}
use Rattle.cv_utf7.specs.declared.read.base64_unit.Base64Unit.{Base64Unit}

two_digits : (p v a b : ℕ) → is_digit a ≡ true → is_digit b ≡ true → bits p v
    ++ (bits 6 (value_of a) ++ (bits 6 (value_of b) ++ [])) ≡ bits (p + 12) ((v * 64 + value_of a) * 64 + value_of b)
two_digits p v a b d e =
    rw append-nil (sym (append_assoc (bits p v) (bits 6 (value_of a)) (bits 6 (value_of b)))
    ∙ ap (λ (t : List Bool). t ++ bits 6 (value_of b)) (bits-digit p v (value_of a) (value_lt a d))
    ∙ bits-digit (p + 6) (v * 64 + value_of a) (value_of b) (value_lt b e)
    ∙ (let e : p + 6 + 6 ≡ p + 12 = omega arith in ap (λ (n : ℕ). bits n ((v * 64 + value_of a) * 64 + value_of b)) e))

three_digits : (p v a b c : ℕ) → is_digit a ≡ true → is_digit b ≡ true
    → is_digit c ≡ true → bits p v ++ (bits 6 (value_of a) ++ (bits 6 (value_of b) ++ (bits 6 (value_of c) ++ [])))
    ≡ bits (p + 18) (((v * 64 + value_of a) * 64 + value_of b) * 64 + value_of c)
three_digits p v a b c d e f =
    rw append-nil (
    ap (λ (t : List Bool). bits p v ++ t)
    (sym (append_assoc (bits 6 (value_of a)) (bits 6 (value_of b)) (bits 6 (value_of c))))
    ∙ sym (append_assoc (bits p v) (bits 6 (value_of a) ++ bits 6 (value_of b)) (bits 6 (value_of c)))
    ∙ ap (λ (t : List Bool). t ++ bits 6 (value_of c)) (rw append-nil at (two_digits p v a b d e))
    ∙ bits-digit (p + 12) ((v * 64 + value_of a) * 64 + value_of b) (value_of c) (value_lt c f) ∙ (let e : p + 12 + 6
    ≡ p + 18 = omega arith in ap (λ (n : ℕ). bits n (((v * 64 + value_of a) * 64 + value_of b) * 64 + value_of c)) e))

-- some bits are those of a code unit and those left over
cut_unit : (p n q total value over : ℕ) → p + n ≡ 16 + q → total / 2 ^ q ≡ value → total % 2 ^ q ≡ over % 2 ^ q
    → bits (p + n) total ≡ bits 16 value ++ bits q over
cut_unit p n q total value over e f g = rw e (bits-split 16 q total ∙ rw (f, bits-mod q total over g) refl)

-- two digits after four pending bits hold a code unit
pub unit_4 : (pending : Bits) (text : List ℕ) (u : Base64Unit) → pending.count ≡ 4 → 2 ≤ length text
    → is_digit (get_or text 0 0) ≡ true → is_digit (get_or text 1 0) ≡ true → u.n ≡ 2 → u.over.count ≡ 0 → u.value
    ≡ pending.value * 4096 + (value_of (get_or text 0 0) * 64 + value_of (get_or text 1 0)) → IsUnit pending text u
unit_4 pending [] u p l a b n q e = absurd (omega arith)
unit_4 pending (x ∷ []) u p l a b n q e = absurd (omega arith)
unit_4 pending (x ∷ y ∷ text) u p l a b n q e =
    let w : take u.n (x ∷ y ∷ text) ≡ x ∷ y ∷ [] = ap (λ (k : ℕ). take k (x ∷ y ∷ text)) n in
    let v : pending.value < 16 = subst (λ (k : ℕ). pending.value < 2 ^ k) p pending.in_range in
    let t : (pending.value * 64 + value_of x) * 64 + value_of y ≡ u.value = omega arith in
    record {
      within = omega arith;
      are_digits = rw w (AreDigits-cons x (y ∷ []) a (AreDigits-cons y [] b no_digits));
      same = rw w (two_digits pending.count pending.value x y a b ∙ cut_unit pending.count 12 u.over.count _ u.value
          u.over.value (omega arith) (rw q (omega arith)) (rw q (omega arith)));
      small = omega (arith, value_lt x a, value_lt y b);
    }

-- three digits after two pending bits hold a code unit
pub unit_2 : (pending : Bits) (text : List ℕ) (u : Base64Unit) → pending.count ≡ 2 → 3 ≤ length text
    → is_digit (get_or text 0 0) ≡ true → is_digit (get_or text 1 0) ≡ true → is_digit (get_or text 2 0) ≡ true
    → u.n ≡ 3 → u.over.count ≡ 4 → u.value ≡ pending.value * 16384 + ((value_of (get_or text 0 0) * 64
    + value_of (get_or text 1 0)) * 64 + value_of (get_or text 2 0)) / 16 → u.over.value ≡ ((value_of (get_or text 0 0)
    * 64 + value_of (get_or text 1 0)) * 64 + value_of (get_or text 2 0)) % 16 → IsUnit pending text u
unit_2 pending [] u p l a b c n q e f = absurd (omega arith)
unit_2 pending (x ∷ []) u p l a b c n q e f = absurd (omega arith)
unit_2 pending (x ∷ y ∷ []) u p l a b c n q e f = absurd (omega arith)
unit_2 pending (x ∷ y ∷ z ∷ text) u p l a b c n q e f =
    let w : take u.n (x ∷ y ∷ z ∷ text) ≡ x ∷ y ∷ z ∷ [] = ap (λ (k : ℕ). take k (x ∷ y ∷ z ∷ text)) n in
    let v : pending.value < 4 = subst (λ (k : ℕ). pending.value < 2 ^ k) p pending.in_range in
    record {
      within = omega arith;
      are_digits =
          rw w (AreDigits-cons x (y ∷ z ∷ []) a (AreDigits-cons y (z ∷ []) b (AreDigits-cons z [] c no_digits)));
      same = rw w (three_digits pending.count pending.value x y z a b c ∙ cut_unit pending.count 18 u.over.count _
          u.value u.over.value (omega arith) (rw q (omega arith)) (rw q (omega arith)));
      small = omega (arith, value_lt x a, value_lt y b, value_lt z c);
    }

-- three digits hold a code unit if no bits are pending
pub unit_0 : (pending : Bits) (text : List ℕ) (u : Base64Unit) → (pending.count ≡ 4 → ⊥) → (pending.count ≡ 2 → ⊥) → 3
    ≤ length text → is_digit (get_or text 0 0) ≡ true → is_digit (get_or text 1 0) ≡ true → is_digit (get_or text 2 0)
    ≡ true → u.n ≡ 3 → u.over.count ≡ 2 → u.value ≡ ((value_of (get_or text 0 0) * 64 + value_of (get_or text 1 0)) * 64
    + value_of (get_or text 2 0)) / 4 → u.over.value ≡ ((value_of (get_or text 0 0) * 64 + value_of (get_or text 1 0))
    * 64 + value_of (get_or text 2 0)) % 4 → IsUnit pending text u
unit_0 pending [] u p r l a b c n q e f = absurd (omega arith)
unit_0 pending (x ∷ []) u p r l a b c n q e f = absurd (omega arith)
unit_0 pending (x ∷ y ∷ []) u p r l a b c n q e f = absurd (omega arith)
unit_0 pending (x ∷ y ∷ z ∷ text) u p r l a b c n q e f =
    let w : take u.n (x ∷ y ∷ z ∷ text) ≡ x ∷ y ∷ z ∷ [] = ap (λ (k : ℕ). take k (x ∷ y ∷ z ∷ text)) n in
    let o : pending.count ≡ 0 = omega (arith, pending.few, pending.even) in
    let v : pending.value < 1 = subst (λ (k : ℕ). pending.value < 2 ^ k) o pending.in_range in
    record {
      within = omega arith;
      are_digits =
          rw w (AreDigits-cons x (y ∷ z ∷ []) a (AreDigits-cons y (z ∷ []) b (AreDigits-cons z [] c no_digits)));
      same = rw w (three_digits pending.count pending.value x y z a b c ∙ cut_unit pending.count 18 u.over.count _
          u.value u.over.value (omega arith) (rw q (omega arith)) (rw q (omega arith)));
      small = omega (arith, value_lt x a, value_lt y b, value_lt z c);
    }

-- fewer than two bytes hold no code unit
pub none_short : (pending : Bits) (text : List ℕ) → length text < 2 → NoUnit pending text
none_short pending text h n l k d = omega (arith, pending.few)

-- fewer than three bytes hold no code unit, unless four bits are pending
pub none_shorter : (pending : Bits) (text : List ℕ) → (pending.count ≡ 4 → ⊥) → length text < 3 → NoUnit pending text
none_shorter pending text p h n l k d = omega (arith, pending.few, pending.even)

none_where : (pending : Bits) (text : List ℕ) (m : ℕ) → m < length text → is_digit (get_or text m 0) ≡ false
    → pending.count + 6 * m < 16 → NoUnit pending text
none_where pending text m h e f n l k d =
    let t = AreDigits-at (take n text) d m (simp length-take (omega arith)) in
    let g : get_or (take n text) m 0 ≡ get_or text m 0 = get_or-take n text m 0 (omega arith) in
    (let same : true ≡ false = cc in true≢false same)

-- no code unit is next if the first byte is no digit
pub none_first : (pending : Bits) (text : List ℕ) → 2 ≤ length text → is_digit (get_or text 0 0) ≡ false
    → NoUnit pending text
none_first pending text h e = none_where pending text 0 (omega arith) e (omega (arith, pending.few))

-- no code unit is next if the second byte is no digit
pub none_second : (pending : Bits) (text : List ℕ) → 2 ≤ length text → is_digit (get_or text 1 0) ≡ false
    → NoUnit pending text
none_second pending text h e = none_where pending text 1 (omega arith) e (omega (arith, pending.few))

-- no code unit is next if the third byte is no digit, unless four bits are pending
pub none_third : (pending : Bits) (text : List ℕ) → (pending.count ≡ 4 → ⊥) → 3 ≤ length text
    → is_digit (get_or text 2 0) ≡ false → NoUnit pending text
none_third pending text p h e = none_where pending text 2 (omega arith) e (omega (arith, pending.few, pending.even))

pub ruleset units = (unit_0, unit_2, unit_4, none_short, none_shorter, none_first, none_second, none_third, value_lt)

-- at first no digits, and the pending bits
pub front_none : (pending : Bits) (text : List ℕ) (count value : ℕ) → count ≡ pending.count → value ≡ pending.value
    → IsPartial pending text 0 count value
front_none pending text count value e f = record {
  within = omega arith;
  are_digits = no_digits;
  counts = omega arith;
  few = omega (arith, pending.few);
  small = rw (e, f) pending.in_range;
  same = rw (e, f) (append-nil (bits_of pending));
}

-- one digit more at the start
pub front_more : (pending : Bits) (text : List ℕ) (n m count value more next : ℕ) → NoUnit pending text
    → IsPartial pending text n count value → n < length text → is_digit (get_or text n 0) ≡ true → m ≡ n + 1
    → more ≡ count + 6 → next ≡ value * 64 + value_of (get_or text n 0) → IsPartial pending text m more next
front_more pending text n m count value more next none h l d g e f =
    let t : take m text ≡ take n text ++ get_or text n 0 ∷ [] = ap (λ (k : ℕ). take k text) g ∙ take_more text n 0 l in
    let are : AreDigits (take m text) = rw t (AreDigits-append (take n text) (get_or text n 0 ∷ []) h.are_digits
    (AreDigits-cons (get_or text n 0) [] d no_digits)) in
    let few : more < 16 =
    elim (cases_lt more 16) [ inl k ↦ k | inr k ↦ absurd (none m (omega arith) (omega (arith, h.counts)) are) ] in
    record {
      within = omega arith;
      are_digits = are;
      counts = omega (arith, h.counts);
      few = few;
      small = rw (e, f) (let k : 2 ^ (count + 6) ≡ 2 ^ count * 64 = pow-add 2 count 6 in
          omega (arith, h.small, value_lt (get_or text n 0) d));
      same = rw
          (t, digit_bits-append (take n text) (get_or text n 0 ∷ []), append-nil (bits 6 (value_of (get_or text n 0))))
          (
          sym (append_assoc (bits_of pending) (digit_bits (take n text)) (bits 6 (value_of (get_or text n 0))))
          ∙ ap (λ (b : List Bool). b ++ bits 6 (value_of (get_or text n 0))) h.same
          ∙ rw (e, f) (bits-digit count value (value_of (get_or text n 0)) (value_lt (get_or text n 0) d)));
    }

-- the bits so far are fewer than sixteen
pub front_bound : (pending : Bits) (text : List ℕ) (n count value : ℕ) → IsPartial pending text n count value
    → value < 65536
front_bound pending text n count value h = let e : 2 ^ count ≤ 2 ^ 16 =
    pow-le-pow_right {n = 2} (omega arith) {i = count} {j = 16} (omega (arith, h.few)) in omega (arith, h.small)

pub ruleset fronts = (front_none, front_more, front_bound, value_lt)

-- what begins with the bits so far is at most a code unit
pub width_bound : (count value : ℕ) → count < 16 → value < 2 ^ count
    → value * 2 ^ (16 - count) + 2 ^ (16 - count) ≤ 65536
width_bound count value h k =
    let e : 2 ^ count * 2 ^ (16 - count) ≡ 65536 = sym (pow-add 2 count (16 - count))
    ∙ (let f : count + (16 - count) ≡ 16 = omega arith in ap (λ (n : ℕ). 2 ^ n) f) in
    let l : (value + 1) * 2 ^ (16 - count) ≤ 2 ^ count * 2 ^ (16 - count) =
    mul-le-mul_right (2 ^ (16 - count)) (omega arith) in
    omega arith

pub ruleset ranges = (width_bound, one_shl)
