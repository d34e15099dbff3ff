-- Characters by their code units, and where these begin in strings of digits.
use Rattle.std.proofs.Common.{◌≡◌, ℕ, ◌+◌, ◌-◌, ◌*◌, ◌/◌, ◌%◌, ◌^◌, ◌<◌, ◌≤◌, Bool, ◌⊎◌, List, ◌++◌, length, take}
use Rattle.std.proofs.Common.{drop, sym, ◌∙◌, ap, arith, inl, inr, Some}
use Rattle.std.proofs.lemmas.Bool.{cases_lt, lt-ltb, le-ltb}
use Rattle.std.proofs.lemmas.List.{length-append, append_assoc, append-nil}
use Rattle.cv_base.specs.Scalars.{IsScalar}
use Rattle.cv_base.specs.Items.{Taken, taken}
use Rattle.cv_base.specs.declared.state.Bits.{Bits}
use Rattle.cv_utf7.specs.BitLists.{bits, bits_of, character_bits, AreDigits, digit_bits}
use Rattle.cv_base.specs.Units.{high_unit, low_unit}
use Rattle.cv_utf7.proofs.Digits.{length-digits, digit_bits-cut}
use Rattle.cv_utf7.proofs.BitStrings.{length-bits, mod-bits, bits-split, append-same}
use Rattle.cv_base.specs.declared.state.ReadState.TheVariants as read
use Rattle.cv_utf7.specs.Utf7.{ReadsCharacter}

-- The pending bits and those of these digits begin with a code unit.
pub record Leads (pending : Bits) (bytes : List ℕ) (unit : ℕ) (rest : List Bool) : Type 0 where
  pub are_digits : AreDigits bytes
  pub same : bits_of pending ++ digit_bits bytes ≡ bits 16 unit ++ rest

-- digits that begin with a code unit have its sixteen bits
pub leads-long : (pending : Bits) (w : List ℕ) (u : ℕ) (rest : List Bool) → Leads pending w u rest
    → 16 ≤ pending.count + 6 * length w
leads-long pending w u rest h =
    let e : length (bits_of pending ++ digit_bits w) ≡ length (bits 16 u ++ rest) = ap length h.same in
    omega (arith, simp length-append at e, length-bits pending.count pending.value, length-bits 16 u, length-digits w)

-- if the first digits hold a code unit, the digits begin with it
pub leads-unit : (pending : Bits) (w : List ℕ) (u v n : ℕ) (rest after : List Bool)
    → Leads pending w u rest → bits_of pending ++ digit_bits (take n w) ≡ bits 16 v ++ after
    → (u % 65536 ≡ v % 65536) × (rest ≡ after ++ digit_bits (drop n w))
leads-unit pending w u v n rest after h e =
    let f : bits 16 v ++ (after ++ digit_bits (drop n w)) ≡ bits 16 u ++ rest =
    sym (append_assoc (bits 16 v) after (digit_bits (drop n w))) ∙ ap (λ (t : List Bool). t ++ digit_bits (drop n w))
    (sym e) ∙ append_assoc (bits_of pending) (digit_bits (take n w)) (digit_bits (drop n w))
    ∙ ap (λ (t : List Bool). bits_of pending ++ t) (sym (digit_bits-cut n w)) ∙ h.same in
    let g = append-same (bits 16 v) (bits 16 u) (after ++ digit_bits (drop n w)) rest f
    (length-bits 16 v ∙ sym (length-bits 16 u)) in
    (sym (mod-bits 16 v u g.0), sym g.1)

-- the first bits of the digits are those of the code unit that they begin with, also if they are fewer than sixteen
pub leads-front : (pending : Bits) (w : List ℕ) (u n count value : ℕ) (rest : List Bool)
    → Leads pending w u rest → bits_of pending ++ digit_bits (take n w) ≡ bits count value → count ≤ 16
    → (u / 2 ^ (16 - count)) % 2 ^ count ≡ value % 2 ^ count
leads-front pending w u n count value rest h e l =
    let s : bits 16 u ≡ bits count (u / 2 ^ (16 - count)) ++ bits (16 - count) u = (let k : count + (16 - count) ≡ 16 =
    omega arith in ap (λ (m : ℕ). bits m u) (sym k) ∙ bits-split count (16 - count) u) in
    let f : bits count value ++ digit_bits (drop n w)
    ≡ bits count (u / 2 ^ (16 - count)) ++ (bits (16 - count) u ++ rest) =
    ap (λ (t : List Bool). t ++ digit_bits (drop n w)) (sym e) ∙ append_assoc (bits_of pending) (digit_bits (take n w))
    (digit_bits (drop n w)) ∙ ap (λ (t : List Bool). bits_of pending ++ t) (sym (digit_bits-cut n w)) ∙ h.same ∙ ap
    (λ (t : List Bool). t ++ rest) s ∙ append_assoc (bits count (u / 2 ^ (16 - count))) (bits (16 - count) u) rest in
    sym (mod-bits count value
    (u / 2 ^ (16 - count)) (append-same (bits count value) (bits count (u / 2 ^ (16 - count))) (digit_bits (drop n w))
    (bits (16 - count) u ++ rest) f (length-bits count value ∙ sym (length-bits count (u / 2 ^ (16 - count))))).0)

-- the bits of a character of one code unit
pub one_unit : (c : ℕ) → c < 0x10000 → character_bits c ≡ bits 16 c
one_unit c h = rw (lt-ltb c 0x10000 h) (append-nil (bits 16 c))

-- the bits of a character of two code units
pub two_units : (c : ℕ) → 0x10000 ≤ c → character_bits c ≡ bits 16 (high_unit c) ++ bits 16 (low_unit c)
two_units c h =
    rw (le-ltb c 0x10000 h) (ap (λ (t : List Bool). bits 16 (high_unit c) ++ t) (append-nil (bits 16 (low_unit c))))

-- a character has sixteen or thirty-two bits
pub character_length : (c : ℕ) → (length (character_bits c) ≡ 16) ⊎ (length (character_bits c) ≡ 32)
character_length c = elim (cases_lt c 0x10000) [
  | inl h ↦ inl (ap length (one_unit c h) ∙ length-bits 16 c)
  | inr h ↦ inr (ap length (two_units c h) ∙ length-append (bits 16 (high_unit c)) (bits 16 (low_unit c))
      ∙ (let a : length (bits 16 (high_unit c)) ≡ 16 = length-bits 16 (high_unit c) in
      let b : length (bits 16 (low_unit c)) ≡ 16 = length-bits 16 (low_unit c) in omega arith))
]

-- A character of a shifted sequence, by its first unit.
pub record IsOne (pending : Bits) (w : List ℕ) (i : Taken) : Type 0 where
  pub c : ℕ
  pub next : Bits
  pub scalar : IsScalar c
  pub small : c < 0x10000
  pub leads : Leads pending w c (bits_of next)
  pub is : i ≡ taken (length w) (Some c) (read.Shifted next)

-- A character of a shifted sequence, by its high surrogate and its low one.
pub record IsPair (pending : Bits) (w : List ℕ) (i : Taken) : Type 0 where
  pub c : ℕ
  pub next : Bits
  pub in_range : c < 0x110000
  pub large : 0x10000 ≤ c
  pub leads : Leads pending w (high_unit c) (bits 16 (low_unit c) ++ bits_of next)
  pub is : i ≡ taken (length w) (Some c) (read.Shifted next)

-- a character of a shifted sequence is of one code unit or of a pair
pub one_or_pair : (pending : Bits) (w : List ℕ) (i : Taken) → ReadsCharacter pending w i
    → IsOne pending w i ⊎ IsPair pending w i
one_or_pair pending w i r = elim (cases_lt r.c 0x10000) [
  | inl l ↦ inl (record {
    c = r.c;
    next = r.next;
    scalar = r.scalar;
    small = l;
    leads = record {
      are_digits = r.are_digits;
      same = r.same_bits ∙ ap (λ (t : List Bool). t ++ bits_of r.next) (one_unit r.c l);
    };
    is = r.is;
  })
  | inr l ↦ inr (record {
    c = r.c;
    next = r.next;
    in_range = r.scalar.0;
    large = l;
    leads = record {
      are_digits = r.are_digits;
      same = r.same_bits ∙ ap (λ (t : List Bool). t ++ bits_of r.next) (two_units r.c l)
          ∙ append_assoc (bits 16 (high_unit r.c)) (bits 16 (low_unit r.c)) (bits_of r.next);
    };
    is = r.is;
  })
]
