-- Code units in the digits of a text.
use Rattle.std.proofs.Common.{◌≡◌, ℕ, ◌+◌, ◌%◌, ◌<◌, ◌≤◌, List, length, drop}
use Rattle.std.proofs.Common.{get_or, true, refl, sym, ◌∙◌, ap, arith, lit≤, lit<, length-drop, get_or-drop}
use Rattle.std.proofs.Common.{inl, inr}
use Rattle.std.proofs.lemmas.Bool.{cases_lt}
use Rattle.std.proofs.Math.Nat.{mod-lt}
use Rattle.cv_base.specs.declared.state.Bits.{Bits}
use Rattle.cv_utf7.specs.Sets.{is_digit, value_of}
use Rattle.cv_utf7.specs.Private.ItemSteps.{IsUnit}
use Rattle.cv_utf7.specs.Private.SixteenDigits.{first_unit, second_unit, third_unit}
use Rattle.cv_utf7.proofs.PartialUnits.{unit_0, unit_2, unit_4}
use Rattle.cv_utf7.proofs.SetMembers.{value_lt}

-- the two bits that are left over after three digits
unfoldable pub two_bits : ℕ → Bits
two_bits v = record { count = 2; value = v % 4; few = lit≤ tt; even = refl; in_range = mod-lt v (lit< tt) }

-- the four bits that are left over after three more
unfoldable pub four_bits : ℕ → Bits
four_bits v = record { count = 4; value = v % 16; few = lit≤ tt; even = refl; in_range = mod-lt v (lit< tt) }

-- Digits of a text from index `at` on, and their values.
pub record AreValues (text : List ℕ) (at d : ℕ) (v : List ℕ) : Type 0 where
  pub within : at + d ≤ length text
  pub digits : (i : ℕ) → i < d → is_digit (get_or text (at + i) 0) ≡ true
  pub values : (i : ℕ) → i < d → get_or v i 0 ≡ value_of (get_or text (at + i) 0)

digit_at : {text v : List ℕ} {at d : ℕ} → AreValues text at d v → (i j k : ℕ) → j + k ≡ at + i → i < d
    → is_digit (get_or (drop j text) k 0) ≡ true
digit_at {text = text} p i j k e h =
    ap is_digit (get_or-drop j text k 0 ∙ ap (λ (m : ℕ). get_or text m 0) e) ∙ p.digits i h

value_at : {text v : List ℕ} {at d : ℕ} → AreValues text at d v → (i j k : ℕ) → j + k ≡ at + i → i < d
    → value_of (get_or (drop j text) k 0) ≡ get_or v i 0
value_at {text = text} p i j k e h =
    ap value_of (get_or-drop j text k 0 ∙ ap (λ (m : ℕ). get_or text m 0) e) ∙ sym (p.values i h)

pub value_few : {text v : List ℕ} {at d : ℕ} → AreValues text at d v → (i : ℕ) → i < d → get_or v i 0 < 64
value_few p i h = omega (arith, p.values i h, value_lt _ (p.digits i h))

-- the first code unit of eight digits: three after no bits
pub first_is : (text v : List ℕ) (at d b a : ℕ) (none : Bits) → AreValues text at d v → none.count ≡ 0 → b + 3 ≤ d
    → a ≡ first_unit v b
    → IsUnit none (drop (at + b) text) (record { value = a; n = 3; over = two_bits (get_or v (b + 2) 0) })
unfolding two_bits
first_is text v at d b a none p nothing h e =
    let j = at + b in
    let v0 = value_at p b j 0 (omega arith) (omega arith) in
    let v1 = value_at p (b + 1) j 1 (omega arith) (omega arith) in
    let v2 = value_at p (b + 2) j 2 (omega arith) (omega arith) in
    let l2 = value_few p (b + 2) (omega arith) in
    unit_0 none (drop j text) (record { value = a; n = 3; over = two_bits (get_or v (b + 2) 0) }) (λ f. omega arith)
    (λ f. omega arith) (omega (arith, length-drop j text, p.within)) (digit_at p b j 0 (omega arith) (omega arith))
    (digit_at p (b + 1) j 1 (omega arith) (omega arith)) (digit_at p (b + 2) j 2 (omega arith) (omega arith)) refl refl
    (omega (arith, e, v0, v1, v2, l2)) (omega (arith, v0, v1, v2))

-- the second: three after two bits
pub second_is : (text v : List ℕ) (at d b a : ℕ) → AreValues text at d v → b + 6 ≤ d → a ≡ second_unit v b
    → IsUnit (two_bits (get_or v (b + 2) 0)) (drop (at + b + 3) text)
    (record { value = a; n = 3; over = four_bits (get_or v (b + 5) 0) })
unfolding two_bits four_bits
second_is text v at d b a p h e =
    let j = at + b + 3 in
    let v3 = value_at p (b + 3) j 0 (omega arith) (omega arith) in
    let v4 = value_at p (b + 4) j 1 (omega arith) (omega arith) in
    let v5 = value_at p (b + 5) j 2 (omega arith) (omega arith) in
    let l3 = value_few p (b + 3) (omega arith) in
    let l4 = value_few p (b + 4) (omega arith) in
    let l5 = value_few p (b + 5) (omega arith) in
    unit_2 (two_bits (get_or v (b + 2) 0)) (drop j text)
    (record { value = a; n = 3; over = four_bits (get_or v (b + 5) 0) }) refl
    (omega (arith, length-drop j text, p.within)) (digit_at p (b + 3) j 0 (omega arith) (omega arith))
    (digit_at p (b + 4) j 1 (omega arith) (omega arith)) (digit_at p (b + 5) j 2 (omega arith) (omega arith)) refl refl
    (omega (arith, e, v3, v4, v5, l3, l4, l5)) (omega (arith, v3, v4, v5))

-- the third: two after four bits
pub third_is : (text v : List ℕ) (at d b a : ℕ) (none : Bits) → AreValues text at d v → none.count ≡ 0 → b + 8 ≤ d
    → a ≡ third_unit v b → IsUnit (four_bits (get_or v (b + 5) 0)) (drop (at + b + 6) text)
    (record { value = a; n = 2; over = none })
unfolding four_bits
third_is text v at d b a none p nothing h e =
    let j = at + b + 6 in
    let v6 = value_at p (b + 6) j 0 (omega arith) (omega arith) in
    let v7 = value_at p (b + 7) j 1 (omega arith) (omega arith) in
    unit_4 (four_bits (get_or v (b + 5) 0)) (drop j text) (record { value = a; n = 2; over = none }) refl
    (omega (arith, length-drop j text, p.within)) (digit_at p (b + 6) j 0 (omega arith) (omega arith))
    (digit_at p (b + 7) j 1 (omega arith) (omega arith)) refl nothing (omega (arith, e, v6, v7))

-- the values that vectors make are those of the digits
pub values_are : (text bytes values v : List ℕ) (at d : ℕ) → d ≤ 16 → at + d ≤ length text
    → ((i : ℕ) → i < d → is_digit (get_or text (at + i) 0) ≡ true)
    → ((i : ℕ) → i < 16 → at + i < length text → get_or bytes i 0 ≡ get_or text (at + i) 0)
    → ((i : ℕ) → i < 16 → is_digit (get_or bytes i 0) ≡ true → get_or values i 0 ≡ value_of (get_or bytes i 0))
    → ((i : ℕ) → i < d → get_or v i 0 ≡ get_or values i 0) → AreValues text at d v
values_are text bytes values v at d few within digits same are first = record {
  within = within;
  digits = digits;
  values = λ i h.
      let byte = same i (omega arith) (omega arith) in
      first i h ∙ are i (omega arith) (ap is_digit byte ∙ digits i h) ∙ ap value_of byte;
}

-- all of them are six bits
pub values_few : (text v : List ℕ) (at d : ℕ) → AreValues text at d v
    → ((i : ℕ) → d ≤ i → i < 16 → get_or v i 0 ≡ 0) → (i : ℕ) → i < 16 → get_or v i 0 < 64
values_few text v at d p others i h = elim (cases_lt i d) [
  | inl l ↦ value_few p i l
  | inr l ↦ (let e = others i l h in omega (arith, e))
]
