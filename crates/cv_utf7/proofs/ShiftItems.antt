-- What is next in a shifted sequence if a code unit is: a character, or one half of a pair.
use Rattle.std.proofs.Common.{◌≡◌, ℕ, zero, suc, ◌+◌, ◌*◌, ◌%◌, ◌<◌, ◌≤◌, Bool, List, [], ◌∷◌, ◌++◌, length, take}
use Rattle.std.proofs.Common.{drop, sym, ◌∙◌, ap, arith, inl, inr, Some}
use Rattle.std.proofs.lemmas.Bool.{cases_lt}
use Rattle.std.proofs.lemmas.List.{append_assoc, length-take-le, length-drop}
use Rattle.cv_base.specs.Scalars.{IsScalar}
use Rattle.cv_base.specs.Items.{Taken, taken, Stands, IsNext}
use Rattle.cv_base.proofs.Front.{Begins-take, Agree, Begins-agree}
use Rattle.cv_base.specs.declared.item.Item.TheVariants as item
use Rattle.cv_base.specs.declared.state.Bits.{Bits}
use Rattle.cv_base.specs.declared.state.ReadState.TheVariants as read
use Rattle.cv_utf7.specs.BitLists.{bits, bits_of, digit_bits}
use Rattle.cv_utf7.proofs.BitStrings.{length-bits}
use Rattle.cv_utf7.specs.Utf7.{utf7_reads}
use Rattle.cv_utf7.proofs.CodeUnits.{Leads, leads-long, leads-unit, one_unit, two_units, IsOne, IsPair, one_or_pair}
use Rattle.cv_base.specs.Units.{high_unit, low_unit}
use Rattle.cv_block.specs.Surrogates.{IsSurrogate, IsHighUnit, IsLowUnit, IsPair as IsJoined}
use Rattle.cv_utf7.proofs.Agreement.{agree-sym, agree-take, agree-drop, agree-front}
use Rattle.cv_utf7.proofs.OneItem.{IsStop, stop_of, leads-length, leads_stop}
use Rattle.cv_utf7.specs.Private.ItemSteps.{IsUnit}
use Rattle.cv_utf7.specs.declared.read.base64_unit.Base64Unit.{Base64Unit}
use Rattle.cv_utf7.proofs.Digits.{digit_bits-append, AreDigits-append, AreDigits-drop}

-- an item of a shifted sequence is one of three
pub by_kind : (p : Bits) (w : List ℕ) (i : Taken) (P : Type 0) → utf7_reads (read.Shifted p) w i → (IsOne p w i → P)
    → (IsPair p w i → P) → (IsStop p w i → P) → P
by_kind p w i P r one pair stop = elim r [
  | inl c ↦ elim (one_or_pair p w i c) [ inl m ↦ one m | inr m ↦ pair m ]
  | inr e ↦ stop (stop_of p w i e)
]

-- what agrees with no item is ill-formed
pub ill_from : (p : Bits) (x : List ℕ) → 0 < length x → ((w : List ℕ) (i : Taken) → IsOne p w i → Agree w x → ⊥)
    → ((w : List ℕ) (i : Taken) → IsPair p w i → Agree w x → ⊥)
    → ((w : List ℕ) (i : Taken) → IsStop p w i → Agree w x → ⊥) → IsNext utf7_reads (read.Shifted p) x item.Ill
ill_from p x n one pair stop =
    let never : (w : List ℕ) (i : Taken) → utf7_reads (read.Shifted p) w i → Agree w x
    → ⊥ = λ w i r a. by_kind p w i ⊥ r (λ m. one w i m a) (λ m. pair w i m a) (λ m. stop w i m a) in (
      n,
      λ i q. never q.bytes i q.is_item (Begins-agree q.bytes x q.front).1,
      λ q. never q.bytes q.item q.is_item (agree-sym x q.bytes (Begins-agree x q.bytes q.front).1),
    )

-- the unit that is found
pub unit_leads : (p : Bits) (x : List ℕ) (u : Base64Unit) → IsUnit p x u → Leads p (take u.n x) u.value (bits_of u.over)
unit_leads p x u h = record { are_digits = h.are_digits; same = h.same }

-- how many bits the digits of a code unit have
pub unit_length : (p : Bits) (x : List ℕ) (u : Base64Unit) → IsUnit p x u → p.count + 6 * u.n ≡ 16 + u.over.count
unit_length p x u h = omega (
  arith,
  leads-length p (take u.n x) u.value (bits_of u.over) (unit_leads p x u h),
  length-take-le u.n x h.within,
  length-bits u.over.count u.over.value,
)

-- if a code unit is next, each character begins with it
pub unit_of : (p : Bits) (x : List ℕ) (u : Base64Unit) (w : List ℕ) (f : ℕ) (rest : List Bool)
    → IsUnit p x u → Leads p w f rest → Agree w x
    → (u.n ≤ length w) × (f % 65536 ≡ u.value % 65536) × (rest ≡ bits_of u.over ++ digit_bits (drop u.n w))
unit_of p x u w f rest h k a =
    let l : u.n ≤ length w = omega (arith, leads-long p w f rest k, unit_length p x u h, u.over.few) in
    let t : take u.n w ≡ take u.n x = agree-take w x a u.n l h.within in
    let e =
    leads-unit p w f u.value u.n rest (bits_of u.over) k (ap (λ (t : List ℕ). bits_of p ++ digit_bits t) t ∙ h.same) in
    (l, e.0, e.1)

-- if a code unit is next, no sequence ends
pub unit_no_stop : (p : Bits) (x : List ℕ) (u : Base64Unit) (w : List ℕ) (i : Taken) → IsUnit p x u → IsStop p w i
    → Agree w x → ⊥
unit_no_stop p x u w i h s a =
    leads_stop p (take u.n x) w u.value (bits_of u.over) i (unit_leads p x u h) s (agree-front w x a u.n)

-- no code unit is next in an empty text
pub unit_some : (p : Bits) (x : List ℕ) (u : Base64Unit) → IsUnit p x u → 0 < length x
unit_some p x u h = omega (arith, unit_length p x u h, p.few, h.within)

-- no scalar value is the code unit of a surrogate
pub one_in_range : (c : ℕ) (u : ℕ) → c % 65536 ≡ u % 65536 → IsScalar c → c < 0x10000 → u < 0x10000 → 0xD800 ≤ u
    → u < 0xE000 → ⊥
one_in_range c u e s l m a b = omega (arith, s.1)

-- a code unit that is not a surrogate is read as its character
pub char_stands : (p : Bits) (x : List ℕ) (u : Base64Unit) (c n : ℕ) (next : Bits) → IsUnit p x u → c ≡ u.value
    → n ≡ u.n → next ≡ u.over → ((0xD800 ≤ u.value) × (u.value < 0xE000) → ⊥)
    → Stands utf7_reads (read.Shifted p) x (taken n (Some c) (read.Shifted next))
char_stands p x u c n next h e f g s =
    let l : length (take u.n x) ≡ u.n = length-take-le u.n x h.within in
    let is : taken n (Some c) (read.Shifted next) ≡ taken (length (take u.n x)) (Some u.value) (read.Shifted u.over) =
    cc in
    record {
      bytes = take u.n x;
      is_item = inl (record {
        c = u.value;
        next = u.over;
        scalar =
            (omega (arith, h.small), λ k. elim (cases_lt u.value 0xE000) [ inl m ↦ absurd (s (k, m)) | inr m ↦ m ]);
        are_digits = h.are_digits;
        same_bits = h.same ∙ ap (λ (b : List Bool). b ++ bits_of u.over) (sym (one_unit u.value h.small));
        is = is;
      });
      front = Begins-take u.n x;
    }

-- a code unit that is no surrogate is a scalar value
pub scalar_unit : (p : Bits) (x : List ℕ) (u : Base64Unit) → IsUnit p x u
    → ((0xD800 ≤ u.value) × (u.value < 0xE000) → ⊥) → IsScalar u.value
scalar_unit p x u h s =
    (omega (arith, h.small), λ k. elim (cases_lt u.value 0xE000) [ inl m ↦ absurd (s (k, m)) | inr m ↦ m ])

-- a prefix is a shorter prefix and what follows it
take-two : (a b : ℕ) (x : List ℕ) → take (a + b) x ≡ take a x ++ take b (drop a x)
take-two zero b x = ap (λ (n : ℕ). take n x) (let e : 0 + b ≡ b = omega arith in e)
take-two (suc a) zero [] =
    ap (λ (n : ℕ). let l : List ℕ = [] in take n l) (let e : suc a + 0 ≡ suc a = omega arith in e)
take-two (suc a) (suc b) [] =
    ap (λ (n : ℕ). let l : List ℕ = [] in take n l) (let e : suc a + suc b ≡ suc (a + suc b) = omega arith in e)
take-two (suc a) b (y ∷ x) = ap (λ (n : ℕ). take n (y ∷ x)) (let e : suc a + b ≡ suc (a + b) = omega arith in e)
    ∙ ap (λ (t : List ℕ). y ∷ t) (take-two a b x)

-- after the code unit of a high surrogate a pair continues with its low one
pub pair_after : (p : Bits) (x : List ℕ) (u : Base64Unit) (w : List ℕ) (i : Taken) → IsUnit p x u → (m : IsPair p w i)
    → Agree w x → (high_unit m.c ≡ u.value) × Leads u.over (drop u.n w) (low_unit m.c) (bits_of m.next)
    × Agree (drop u.n w) (drop u.n x)
pair_after p x u w i h m a =
    let e = unit_of p x u w (high_unit m.c) (bits 16 (low_unit m.c) ++ bits_of m.next) h m.leads a in (
      omega (arith, e.1, m.in_range, m.large, h.small),
      record { are_digits = AreDigits-drop u.n w m.leads.are_digits; same = sym e.2 },
      agree-drop w x a u.n,
    )

-- a surrogate is ill-formed if no low one can follow
pub surrogate_ill : (p : Bits) (x : List ℕ) (u : Base64Unit) → IsUnit p x u → 0xD800 ≤ u.value
    → u.value < 0xE000 → ((w : List ℕ) (c : ℕ) (rest : List Bool) → c < 0x110000 → 0x10000 ≤ c → high_unit c ≡ u.value
    → Leads u.over w (low_unit c) rest → Agree w (drop u.n x) → ⊥) → IsNext utf7_reads (read.Shifted p) x item.Ill
surrogate_ill p x u h a b pair = ill_from p x (unit_some p x u h) (λ w i m g. one_in_range m.c u.value (unit_of p x u w
    m.c (bits_of m.next) h m.leads g).1 m.scalar m.small h.small a b) (λ w i m g. (let e = pair_after p x u w i h m g in
    pair (drop u.n w) m.c (bits_of m.next) m.in_range m.large e.0 e.1 e.2)) (λ w i m g. unit_no_stop p x u w i h m g)

-- a surrogate that is no high one is ill-formed if it comes first
pub low_first : (p : Bits) (x : List ℕ) (u : Base64Unit) → IsUnit p x u → IsSurrogate u.value → (IsHighUnit u.value → ⊥)
    → IsNext utf7_reads (read.Shifted p) x item.Ill
low_first p x u h s n = surrogate_ill p x u h s.0 s.1 (λ w c rest i l e k g. n (omega arith))

-- a high surrogate before a code unit that is no low one is ill-formed
pub no_low : (p : Bits) (x : List ℕ) (u v : Base64Unit) → IsUnit p x u → IsHighUnit u.value
    → IsUnit u.over (drop u.n x) v → (IsLowUnit v.value → ⊥) → IsNext utf7_reads (read.Shifted p) x item.Ill
no_low p x u v h a k n = surrogate_ill p x u h (omega arith) (omega arith) (λ w c rest i l e m g.
    (let f = (unit_of u.over (drop u.n x) v w (low_unit c) rest k m g).1 in n (omega (arith, k.small))))

-- a high surrogate and a low one are read as their character
pub pair_stands : (p : Bits) (x : List ℕ) (u v : Base64Unit) (c n : ℕ) (next : Bits) → IsUnit p x u → IsUnit u.over
    (drop u.n x) v → IsHighUnit u.value → IsLowUnit v.value → IsJoined u.value v.value c → n ≡ u.n + v.n → next ≡ v.over
    → Stands utf7_reads (read.Shifted p) x (taken n (Some c) (read.Shifted next))
pair_stands p x u v c n next h k a b f g j =
    let t : take n x ≡ take u.n x ++ take v.n (drop u.n x) = ap (λ (m : ℕ). take m x) g ∙ take-two u.n v.n x in
    let l : length (take n x) ≡ n = length-take-le n x (omega (arith, h.within, k.within, length-drop u.n x)) in
    let high = f.first in
    let low = f.second in
    let above = f.above in
    let is : taken n (Some c) (read.Shifted next) ≡ taken (length (take n x)) (Some c) (read.Shifted v.over) = cc in
    record {
      bytes = take n x;
      is_item = inl (record {
        c = c;
        next = v.over;
        scalar = (omega arith, λ q. omega arith);
        are_digits = rw t (AreDigits-append (take u.n x) (take v.n (drop u.n x)) h.are_digits k.are_digits);
        same_bits =
            rw (t, digit_bits-append (take u.n x) (take v.n (drop u.n x)), two_units c (omega arith), high, low) (
            sym (append_assoc (bits_of p) (digit_bits (take u.n x)) (digit_bits (take v.n (drop u.n x))))
            ∙ ap (λ (b : List Bool). b ++ digit_bits (take v.n (drop u.n x))) h.same
            ∙ append_assoc (bits 16 u.value) (bits_of u.over) (digit_bits (take v.n (drop u.n x)))
            ∙ ap (λ (b : List Bool). bits 16 u.value ++ b) k.same
            ∙ sym (append_assoc (bits 16 u.value) (bits 16 v.value) (bits_of v.over)));
        is = is;
      });
      front = Begins-take n x;
    }

pub ruleset shifts = (char_stands, scalar_unit)

pub ruleset pairs = (low_first, no_low, pair_stands)
