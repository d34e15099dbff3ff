-- What is next in a shifted sequence if more bytes can make a character of the digits.
use Rattle.std.proofs.Common.{◌≡◌, ℕ, ◌+◌, ◌-◌, ◌*◌, ◌/◌, ◌%◌, ◌^◌, ◌<◌, ◌≤◌, Bool, true, false, ◌⊎◌, List, ◌++◌}
use Rattle.std.proofs.Common.{length, take, drop, get_or, refl, sym, ◌∙◌, ap, subst, arith, inl, inr, Some}
use Rattle.std.proofs.lemmas.Bool.{true≢false, cases_lt}
use Rattle.std.proofs.lemmas.List.{length-append, append_assoc, length-drop, take_all, take-append-drop}
use Rattle.std.proofs.lemmas.Nat.{pow_pos}
use Rattle.cv_base.specs.Scalars.{IsScalar}
use Rattle.cv_base.specs.Items.{taken, NoneStands, CanGrow, IsNext}
use Rattle.cv_base.proofs.Front.{Begins-append, Begins-agree, Begins-length}
use Rattle.cv_base.specs.declared.item.Item.TheVariants as item
use Rattle.cv_base.specs.declared.state.Bits.{Bits}
use Rattle.cv_base.specs.declared.state.ReadState.TheVariants as read
use Rattle.cv_utf7.specs.Sets.{is_digit}
use Rattle.cv_utf7.specs.BitLists.{bits, bits_of, character_bits, AreDigits, digit_bits, digits}
use Rattle.cv_utf7.proofs.BitStrings.{length-bits, bits-split}
use Rattle.cv_utf7.specs.Utf7.{utf7_reads}
use Rattle.cv_utf7.proofs.CodeUnits.{leads-long, one_unit, two_units}
use Rattle.cv_base.specs.Units.{high_unit, low_unit}
use Rattle.cv_utf7.specs.Private.ItemSteps.{IsUnit, IsPartial}
use Rattle.cv_utf7.specs.declared.read.base64_unit.Base64Unit.{Base64Unit}
use Rattle.cv_utf7.proofs.Digits.{digits-bits, digit_bits-append, digit_bits-cut, AreDigits-append}
use Rattle.cv_utf7.proofs.ShiftItems.{by_kind, unit_of, unit_no_stop, unit_some, one_in_range, pair_after}
use Rattle.cv_utf7.proofs.ShiftItems.{surrogate_ill}
use Rattle.cv_utf7.proofs.FewDigits.{quotient_is, front_of, stop_leads, front_at, few_ill, few_ends, few_low}

-- Bytes can be added to digits whose bits begin those of a character.
grow : (p : Bits) (x : List ℕ) (c : ℕ) (rest : List Bool) → IsScalar c → AreDigits x → (bits_of p ++ digit_bits x)
    ++ rest ≡ character_bits c → length rest % 2 ≡ 0 → CanGrow utf7_reads (read.Shifted p) x
grow p x c rest s d e v =
    let q : ℕ = (6 - length rest % 6) % 6 in
    let next : Bits = record {
      count = (6 - length rest % 6) % 6;
      value = 0;
      few = omega arith;
      even = omega arith;
      in_range = pow_pos ((6 - length rest % 6) % 6);
    } in
    let all : List Bool = rest ++ bits_of next in
    let m : length all ≡ 6 * ((length rest + (6 - length rest % 6) % 6) / 6) = length-append rest (bits_of next)
    ∙ (let b : length (bits_of next) ≡ (6 - length rest % 6) % 6 = length-bits ((6 - length rest % 6) % 6) 0 in
    omega arith) in
    let made = digits-bits ((length rest + (6 - length rest % 6) % 6) / 6) all m in
    record {
      bytes = x ++ digits all;
      item = taken (length (x ++ digits all)) (Some c) (read.Shifted next);
      is_item = inl (record {
        c = c;
        next = next;
        scalar = s;
        are_digits = AreDigits-append x (digits all) d made.0;
        same_bits = ap (λ (b : List Bool). bits_of p ++ b) (digit_bits-append x (digits all)
            ∙ ap (λ (b : List Bool). digit_bits x ++ b) made.1) ∙ sym (append_assoc (bits_of p) (digit_bits x) all)
            ∙ sym (append_assoc (bits_of p ++ digit_bits x) rest (bits_of next))
            ∙ ap (λ (b : List Bool). b ++ bits_of next) e;
        is = refl;
      });
      front = Begins-append x (digits all);
    }

-- a unit in the range begins with the bits so far
in_front : (count value u : ℕ) → count < 16 → value * 2 ^ (16 - count) ≤ u
    → u < value * 2 ^ (16 - count) + 2 ^ (16 - count) → bits count value ++ bits (16 - count) u ≡ bits 16 u
in_front count value u h a b =
    let k : count + (16 - count) ≡ 16 = omega arith in
    let d : u / 2 ^ (16 - count) ≡ value = quotient_is u value (16 - count) a b in
    sym (ap (λ (m : ℕ). bits m u) (sym k) ∙ bits-split count (16 - count) u
    ∙ ap (λ (v : ℕ). bits count v ++ bits (16 - count) u) d)

front_all : (p : Bits) (x : List ℕ) (n count value : ℕ) → IsPartial p x n count value → length x ≤ n → take n x ≡ x
front_all p x n count value h l = take_all n x l

front_even : (p : Bits) (n count : ℕ) → count ≡ p.count + 6 * n → count % 2 ≡ 0
front_even p n count e = omega (arith, p.even)

grow_unit : (p : Bits) (x : List ℕ) (n count value u : ℕ) → IsPartial p x n count value
    → length x ≤ n → value * 2 ^ (16 - count) ≤ u → u < value * 2 ^ (16 - count) + 2 ^ (16 - count) → u < 65536
    → (u < 0xDC00) ⊎ (0xE000 ≤ u) → CanGrow utf7_reads (read.Shifted p) x
grow_unit p x n count value u h l a b s o =
    let t = front_all p x n count value h l in
    let e : (bits_of p ++ digit_bits x) ++ bits (16 - count) u ≡ bits 16 u =
    ap (λ (t : List ℕ). (bits_of p ++ digit_bits t) ++ bits (16 - count) u) (sym t)
    ∙ ap (λ (b : List Bool). b ++ bits (16 - count) u) h.same ∙ in_front count value u h.few a b in
    let d : AreDigits x = subst AreDigits t h.are_digits in
    let v : count % 2 ≡ 0 = front_even p n count h.counts in
    elim (cases_lt u 0xD800) [
      | inl k ↦ grow p x u (bits (16 - count) u) (omega arith, λ q. absurd (omega arith)) d
          (e ∙ sym (one_unit u (omega arith))) (omega (arith, length-bits (16 - count) u, h.few))
      | inr k ↦ elim o [
        | inl j ↦ (
            let c : ℕ = 0x10000 + (u - 0xD800) * 1024 in
            let high : high_unit (0x10000 + (u - 0xD800) * 1024) ≡ u = omega arith in
            let low : low_unit (0x10000 + (u - 0xD800) * 1024) ≡ 0xDC00 = omega arith in
            grow p x (0x10000 + (u - 0xD800) * 1024) (bits (16 - count) u ++ bits 16 0xDC00)
            (omega arith, λ q. omega arith) d (sym (append_assoc (bits_of p ++ digit_bits x) (bits (16 - count) u)
            (bits 16 0xDC00)) ∙ ap (λ (b : List Bool). b ++ bits 16 0xDC00) e
            ∙ sym (two_units (0x10000 + (u - 0xD800) * 1024) (omega arith) ∙ rw (high, low) refl))
            (rw length-append (omega (arith, length-bits (16 - count) u, length-bits 16 0xDC00, h.few))))
        | inr j ↦ grow p x u (bits (16 - count) u) (omega arith, λ q. j) d (e ∙ sym (one_unit u s))
            (omega (arith, length-bits (16 - count) u, h.few))
      ]
    ]

-- no item is next if all bytes are digits, and too few for a code unit
few_none : (p : Bits) (x : List ℕ) (n count value : ℕ) → IsPartial p x n count value → length x ≤ n
    → NoneStands utf7_reads (read.Shifted p) x
few_none p x n count value h l i q = by_kind p q.bytes i ⊥ q.is_item (λ m.
    omega (arith, leads-long p q.bytes m.c (bits_of m.next) m.leads, Begins-length q.bytes x q.front, h.counts, h.few))
    (λ m. omega (
      arith,
      leads-long p q.bytes (high_unit m.c) (bits 16 (low_unit m.c) ++ bits_of m.next) m.leads,
      Begins-length q.bytes x q.front,
      h.counts,
      h.few,
    )) (λ m. (
    let k : m.n < n = omega (arith, m.long, Begins-length q.bytes x q.front) in
    let d : get_or q.bytes m.n 0 ≡ get_or x m.n 0 =
    (Begins-agree q.bytes x q.front).1 m.n (omega (arith, m.long)) (omega (arith, h.within)) in
    let t = front_at p x n count value m.n h k in
    let z = m.last in
    (let same : true ≡ false = cc in true≢false same)))

-- digits whose bits begin a code unit below the low surrogates are incomplete
pub few_below : (p : Bits) (x : List ℕ) (n count value from : ℕ) → IsPartial p x n count value → length x ≤ n → 0
    < length x → from ≡ value * 2 ^ (16 - count) → from < 0xDC00 → IsNext utf7_reads (read.Shifted p) x item.Incomplete
few_below p x n count value from h l some e a = (
  some,
  few_none p x n count value h l,
  grow_unit p x n count value from h l (omega arith) (omega (arith, pow_pos (16 - count))) (omega arith) (inl a),
)

-- digits whose bits begin a code unit above the low surrogates are incomplete
pub few_above : (p : Bits) (x : List ℕ) (n count value to : ℕ) → IsPartial p x n count value
    → length x ≤ n → 0 < length x → to ≡ value * 2 ^ (16 - count) + 2 ^ (16 - count) → to ≤ 65536 → 0xE000 < to
    → IsNext utf7_reads (read.Shifted p) x item.Incomplete
few_above p x n count value to h l some e s a = (
  some,
  few_none p x n count value h l,
  elim (cases_lt (value * 2 ^ (16 - count)) 0xE000) [
    | inl k ↦ grow_unit p x n count value 0xE000 h l (omega arith) (omega arith) (omega arith) (inr (omega arith))
    | inr k ↦ grow_unit p x n count value (value * 2 ^ (16 - count)) h l (omega arith)
        (omega (arith, pow_pos (16 - count))) (omega (arith, pow_pos (16 - count))) (inr k)
  ],
)

-- a high surrogate is ill-formed if a byte that is no digit follows before a code unit is whole
pub half_stop : (p : Bits) (x : List ℕ) (u : Base64Unit) (n count value : ℕ) → IsUnit p x u → 0xD800 ≤ u.value
    → u.value < 0xDC00 → IsPartial u.over (drop u.n x) n count value → n < length (drop u.n x)
    → is_digit (get_or (drop u.n x) n 0) ≡ false → IsNext utf7_reads (read.Shifted p) x item.Ill
half_stop p x u n count value h a b k l d = surrogate_ill p x u h a (omega arith)
    (λ w c rest i j e m g. stop_leads u.over (drop u.n x) n count value w (low_unit c) rest k l d m g)

-- no low surrogate begins with bits that are above all of them
pub half_above : (p : Bits) (x : List ℕ) (u : Base64Unit) (n count value from : ℕ) → IsUnit p x u → 0xD800 ≤ u.value
    → u.value < 0xDC00 → IsPartial u.over (drop u.n x) n count value → from ≡ value * 2 ^ (16 - count) → 0xE000 ≤ from
    → IsNext utf7_reads (read.Shifted p) x item.Ill
half_above p x u n count value from h a b k e l = surrogate_ill p x u h a (omega arith) (λ w c rest i j f m g.
    (let r = front_of u.over (drop u.n x) n count value w (low_unit c) rest k m g (omega arith) in omega (arith, r.0)))

-- no low surrogate begins with bits that are below all of them
pub half_below : (p : Bits) (x : List ℕ) (u : Base64Unit) (n count value to : ℕ) → IsUnit p x u → 0xD800 ≤ u.value
    → u.value < 0xDC00 → IsPartial u.over (drop u.n x) n count value → to ≡ value * 2 ^ (16 - count) + 2 ^ (16 - count)
    → to ≤ 0xDC00 → IsNext utf7_reads (read.Shifted p) x item.Ill
half_below p x u n count value to h a b k e l = surrogate_ill p x u h a (omega arith) (λ w c rest i j f m g.
    (let r = front_of u.over (drop u.n x) n count value w (low_unit c) rest k m g (omega arith) in omega (arith, r.1)))

half_grow : (p : Bits) (x : List ℕ) (u : Base64Unit) (n count value low : ℕ) → IsUnit p x u → 0xD800 ≤ u.value
    → u.value < 0xDC00 → IsPartial u.over (drop u.n x) n count value → length (drop u.n x) ≤ n
    → value * 2 ^ (16 - count) ≤ low → low < value * 2 ^ (16 - count) + 2 ^ (16 - count) → 0xDC00 ≤ low → low < 0xE000
    → CanGrow utf7_reads (read.Shifted p) x
half_grow p x u n count value low h a b k l f g d e =
    let t = front_all u.over (drop u.n x) n count value k l in
    let after : AreDigits (drop u.n x) = subst AreDigits t k.are_digits in
    let r : bits_of u.over ++ digit_bits (drop u.n x) ≡ bits count value =
    ap (λ (t : List ℕ). bits_of u.over ++ digit_bits t) (sym t) ∙ k.same in
    let c : ℕ = 0x10000 + (u.value - 0xD800) * 1024 + (low - 0xDC00) in
    let high : high_unit (0x10000 + (u.value - 0xD800) * 1024 + (low - 0xDC00)) ≡ u.value = omega arith in
    let lower : low_unit (0x10000 + (u.value - 0xD800) * 1024 + (low - 0xDC00)) ≡ low = omega arith in
    let all : bits_of p ++ digit_bits x ≡ bits 16 u.value ++ bits count value =
    ap (λ (b : List Bool). bits_of p ++ b) (digit_bits-cut u.n x)
    ∙ sym (append_assoc (bits_of p) (digit_bits (take u.n x)) (digit_bits (drop u.n x)))
    ∙ ap (λ (b : List Bool). b ++ digit_bits (drop u.n x)) h.same
    ∙ append_assoc (bits 16 u.value) (bits_of u.over) (digit_bits (drop u.n x))
    ∙ ap (λ (b : List Bool). bits 16 u.value ++ b) r in
    grow p x (0x10000 + (u.value - 0xD800) * 1024 + (low - 0xDC00)) (bits (16 - count) low)
    (omega arith, λ q. omega arith)
    (subst AreDigits (take-append-drop u.n x) (AreDigits-append (take u.n x) (drop u.n x) h.are_digits after))
    (ap (λ (b : List Bool). b ++ bits (16 - count) low) all ∙ append_assoc (bits 16 u.value) (bits count value)
    (bits (16 - count) low) ∙ ap (λ (b : List Bool). bits 16 u.value ++ b) (in_front count value low k.few f g)
    ∙ sym (two_units (0x10000 + (u.value - 0xD800) * 1024 + (low - 0xDC00)) (omega arith) ∙ rw (high, lower) refl))
    (omega (arith, length-bits (16 - count) low, k.few, front_even u.over n count k.counts))

-- a high surrogate and digits whose bits begin a low one are incomplete
pub half_short : (p : Bits) (x : List ℕ) (u : Base64Unit) (n count value from to : ℕ) → IsUnit p x u → 0xD800 ≤ u.value
    → u.value < 0xDC00 → IsPartial u.over (drop u.n x) n count value → length (drop u.n x) ≤ n
    → from ≡ value * 2 ^ (16 - count) → to ≡ value * 2 ^ (16 - count) + 2 ^ (16 - count) → from < 0xE000 → 0xDC00 < to
    → IsNext utf7_reads (read.Shifted p) x item.Incomplete
half_short p x u n count value from to h a b k l e f c d = (
  unit_some p x u h,
  λ i q. by_kind p q.bytes i ⊥ q.is_item (λ m. one_in_range m.c u.value (unit_of p x u q.bytes m.c
      (bits_of m.next) h m.leads (Begins-agree q.bytes x q.front).1).1 m.scalar m.small h.small a (omega arith))
      (λ m. (let g = pair_after p x u q.bytes i h m (Begins-agree q.bytes x q.front).1 in omega (
        arith,
        leads-long u.over (drop u.n q.bytes) (low_unit m.c) (bits_of m.next) g.1,
        Begins-length q.bytes x q.front,
        length-drop u.n q.bytes,
        length-drop u.n x,
        k.counts,
        k.few,
      ))) (λ m. unit_no_stop p x u q.bytes i h m (Begins-agree q.bytes x q.front).1),
  elim (cases_lt from 0xDC00) [
    | inl j ↦ half_grow p x u n count value 0xDC00 h a b k l (omega arith) (omega arith) (omega arith) (omega arith)
    | inr j ↦ half_grow p x u n count value from h a b k l (omega arith) (omega (arith, pow_pos (16 - count))) j c
  ],
)

pub ruleset fews = (few_ill, few_ends, few_low, few_below, few_above)

pub ruleset halves = (half_stop, half_above, half_below, half_short)
