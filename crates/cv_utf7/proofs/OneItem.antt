-- UTF-7 keeps what every codec keeps.
use Rattle.std.proofs.Common.{◌≡◌, ℕ, ◌+◌, ◌*◌, ◌%◌, ◌^◌, ◌<◌, ◌≤◌, Bool, true, false, List, [], ◌∷◌, ◌++◌, length}
use Rattle.std.proofs.Common.{take, get_or, replicate, refl, sym, ◌∙◌, ap, subst, arith, inl, inr, Some}
use Rattle.std.proofs.lemmas.List.{length-append, length-replicate, take_at, take_all, length-take, get_or-take}
use Rattle.std.proofs.lemmas.Bool.{cases_order, true≢false}
use Rattle.cv_base.specs.Items.{Taken, taken, Begins}
use Rattle.cv_base.specs.Codecs.{IsReadable, CanSubstitute}
use Rattle.cv_base.specs.declared.state.Bits.{Bits}
use Rattle.cv_base.specs.declared.state.ReadState.{ReadState}
use Rattle.cv_base.specs.declared.state.ReadState.TheVariants as read
use Rattle.cv_base.specs.declared.state.WriteState.TheVariants as write
use Rattle.cv_utf7.specs.Sets.{is_digit, may_be_direct}
use Rattle.cv_utf7.specs.BitLists.{bits, bits_of, AreDigits, digit_bits}
use Rattle.cv_utf7.proofs.BitStrings.{length-bits, mod-bits, append-same}
use Rattle.cv_utf7.specs.Utf7.{plus, minus, ReadsAtStart, ReadsCharacter, ReadsEnd, EndsAt, utf7_reads, utf7_writes}
use Rattle.cv_utf7.proofs.SetMembers.{plus_is_not_direct, minus_is_no_digit}
use Rattle.cv_utf7.proofs.CodeUnits.{Leads, leads-long, leads-unit, IsOne, IsPair, one_or_pair}
use Rattle.cv_base.specs.Units.{high_unit, low_unit}
use Rattle.cv_base.proofs.Front.{Agree}
use Rattle.cv_utf7.proofs.Agreement.{agree-sym, agree-both, agree-take, agree-whole}
use Rattle.cv_utf7.proofs.Digits.{AreDigits-at, length-digits}
use Rattle.cv_utf7.proofs.PendingBits.{bits_of-same}

-- The end of a shifted sequence, by the index of the byte that is no digit.
pub record IsStop (pending : Bits) (w : List ℕ) (i : Taken) : Type 0 where
  pub n : ℕ
  pub long : length w ≡ n + 1
  pub are_digits : AreDigits (take n w)
  pub last : is_digit (get_or w n 0) ≡ false
  pub few : pending.count + 6 * n < 16
  pub zero_bits : bits_of pending ++ digit_bits (take n w) ≡ replicate (pending.count + 6 * n) false
  pub ends : EndsAt (n + 1) (get_or w n 0) i

get-last : (a : List ℕ) (b : ℕ) → get_or (a ++ b ∷ []) (length a) 0 ≡ b
get-last [] b = refl
get-last (x ∷ a) b = get-last a b

-- what ends a shifted sequence is no digit
pub ends_no_digit : (used b : ℕ) (i : Taken) → EndsAt used b i → is_digit b ≡ false
ends_no_digit used b i e = elim e [ inl p ↦ rw p.0 minus_is_no_digit | inr p ↦ p.1 ]

-- the end of a shifted sequence has its byte after the digits
pub stop_of : (pending : Bits) (w : List ℕ) (i : Taken) → ReadsEnd pending w i → IsStop pending w i
stop_of pending w i r =
    let t : take (length r.front) w ≡ r.front = ap (take (length r.front)) r.whole
    ∙ take_at r.front (r.last ∷ []) (length r.front) refl in
    let g : get_or w (length r.front) 0 ≡ r.last = ap (λ (l : List ℕ). get_or l (length r.front) 0) r.whole
    ∙ get-last r.front r.last in
    let m : length w ≡ length r.front + 1 = ap length r.whole ∙ length-append r.front (r.last ∷ []) in
    let s : pending.count + 6 * length r.front ≡ r.left =
    (let e : length (bits_of pending ++ digit_bits r.front) ≡ r.left = ap length r.zero_bits ∙ length-replicate r.left
    false in omega (arith, simp length-append at e, length-bits pending.count pending.value, length-digits r.front)) in
    let ends : EndsAt (length r.front + 1) r.last i = subst (λ (k : ℕ). EndsAt k r.last i) m r.ends in
    record {
      n = length r.front;
      long = m;
      are_digits = rw t r.are_digits;
      last = rw g (ends_no_digit (length r.front + 1) r.last i ends);
      few = omega (arith, r.few);
      zero_bits = rw (t, s) r.zero_bits;
      ends = rw g ends;
    }

-- how many bits digits have that begin with a code unit
pub leads-length : (pending : Bits) (w : List ℕ) (u : ℕ) (rest : List Bool) → Leads pending w u rest
    → pending.count + 6 * length w ≡ 16 + length rest
leads-length pending w u rest h =
    let e : length (bits_of pending ++ digit_bits w) ≡ length (bits 16 u ++ rest) = ap length h.same in
    omega (arith, simp length-append at e, length-bits pending.count pending.value, length-bits 16 u, length-digits w)

-- two characters of one code unit whose bytes agree are the same
one_one : (p : Bits) (a b : List ℕ) (i j : Taken) → IsOne p a i → IsOne p b j → Agree a b → i ≡ j
one_one p a b i j h k g =
    let l : length a ≡ length b = omega (
      arith,
      leads-length p a h.c (bits_of h.next) h.leads,
      leads-length p b k.c (bits_of k.next) k.leads,
      length-bits h.next.count h.next.value,
      length-bits k.next.count k.next.value,
      h.next.few,
      k.next.few,
    ) in
    let e : a ≡ b = agree-whole a b g l in
    let f : bits 16 h.c ++ bits_of h.next ≡ bits 16 k.c ++ bits_of k.next = sym h.leads.same
    ∙ ap (λ (w : List ℕ). bits_of p ++ digit_bits w) e ∙ k.leads.same in
    let s = append-same (bits 16 h.c) (bits 16 k.c) (bits_of h.next) (bits_of k.next) f
    (length-bits 16 h.c ∙ sym (length-bits 16 k.c)) in
    let m : h.c % 2 ^ 16 ≡ k.c % 2 ^ 16 = mod-bits 16 h.c k.c s.0 in
    let c_is : h.c ≡ k.c = omega (arith, h.small, k.small) in
    let next_is : h.next ≡ k.next = bits_of-same h.next k.next s.1 in
    h.is ∙ (let same : taken (length a) (Some h.c) (read.Shifted h.next)
    ≡ taken (length b) (Some k.c) (read.Shifted k.next) = cc in same) ∙ sym k.is

one_pair : (p : Bits) (a b : List ℕ) (i j : Taken) → IsOne p a i → IsPair p b j → Agree a b → ⊥
one_pair p a b i j h k g =
    let x = leads-length p a h.c (bits_of h.next) h.leads in
    let y = leads-length p b (high_unit k.c) (bits 16 (low_unit k.c) ++ bits_of k.next) k.leads in
    let z : length (bits 16 (low_unit k.c) ++ bits_of k.next) ≡ 16 + k.next.count =
    simp length-append (omega (arith, length-bits 16 (low_unit k.c), length-bits k.next.count k.next.value)) in
    let l : length a < length b = omega (arith, length-bits h.next.count h.next.value, h.next.few) in
    let t : take (length a) b ≡ a = sym (agree-take a b g (length a) (omega arith) (omega arith))
    ∙ take_all (length a) a (omega arith) in
    let e = (leads-unit p b (high_unit k.c) h.c (length a) (bits 16 (low_unit k.c) ++ bits_of k.next)
    (bits_of h.next) k.leads (ap (λ (w : List ℕ). bits_of p ++ digit_bits w) t ∙ h.leads.same)).0 in
    let c_is : h.c ≡ high_unit k.c = omega (arith, h.small, k.in_range, k.large) in
    omega (arith, h.scalar.1, k.in_range, k.large)

pair_pair : (p : Bits) (a b : List ℕ) (i j : Taken) → IsPair p a i → IsPair p b j → Agree a b → i ≡ j
pair_pair p a b i j h k g =
    let x = leads-length p a (high_unit h.c) (bits 16 (low_unit h.c) ++ bits_of h.next) h.leads in
    let y = leads-length p b (high_unit k.c) (bits 16 (low_unit k.c) ++ bits_of k.next) k.leads in
    let v : length (bits 16 (low_unit h.c) ++ bits_of h.next) ≡ 16 + h.next.count =
    simp length-append (omega (arith, length-bits 16 (low_unit h.c), length-bits h.next.count h.next.value)) in
    let z : length (bits 16 (low_unit k.c) ++ bits_of k.next) ≡ 16 + k.next.count =
    simp length-append (omega (arith, length-bits 16 (low_unit k.c), length-bits k.next.count k.next.value)) in
    let l : length a ≡ length b = omega (arith, h.next.few, k.next.few) in
    let e : a ≡ b = agree-whole a b g l in
    let f : bits 16 (high_unit h.c) ++ (bits 16 (low_unit h.c) ++ bits_of h.next)
    ≡ bits 16 (high_unit k.c) ++ (bits 16 (low_unit k.c) ++ bits_of k.next) = sym h.leads.same
    ∙ ap (λ (w : List ℕ). bits_of p ++ digit_bits w) e ∙ k.leads.same in
    let s = append-same (bits 16 (high_unit h.c))
    (bits 16 (high_unit k.c)) (bits 16 (low_unit h.c) ++ bits_of h.next) (bits 16 (low_unit k.c) ++ bits_of k.next) f
    (length-bits 16 (high_unit h.c) ∙ sym (length-bits 16 (high_unit k.c))) in
    let r = append-same (bits 16 (low_unit h.c)) (bits 16 (low_unit k.c)) (bits_of h.next) (bits_of k.next) s.1
    (length-bits 16 (low_unit h.c) ∙ sym (length-bits 16 (low_unit k.c))) in
    let m : high_unit h.c % 2 ^ 16 ≡ high_unit k.c % 2 ^ 16 = mod-bits 16 (high_unit h.c) (high_unit k.c) s.0 in
    let n : low_unit h.c % 2 ^ 16 ≡ low_unit k.c % 2 ^ 16 = mod-bits 16 (low_unit h.c) (low_unit k.c) r.0 in
    let c_is : h.c ≡ k.c = omega (arith, h.in_range, k.in_range, h.large, k.large) in
    let next_is : h.next ≡ k.next = bits_of-same h.next k.next r.1 in
    h.is ∙ (let same : taken (length a) (Some h.c) (read.Shifted h.next)
    ≡ taken (length b) (Some k.c) (read.Shifted k.next) = cc in same) ∙ sym k.is

-- if a unit is next, no sequence ends
pub leads_stop : (p : Bits) (a b : List ℕ) (u : ℕ) (rest : List Bool) (j : Taken) → Leads p a u rest → IsStop p b j
    → Agree a b → ⊥
leads_stop p a b u rest j h k g =
    let l : k.n < length a = omega (arith, leads-long p a u rest h, k.few) in
    let e : get_or a k.n 0 ≡ get_or b k.n 0 = g k.n l (omega (arith, k.long)) in
    let d = AreDigits-at a h.are_digits k.n l in
    let f = k.last in
    cc

-- two ends after one byte are the same
same_end : (used b : ℕ) (i j : Taken) → EndsAt used b i → EndsAt used b j → i ≡ j
same_end used b i j x y = elim x [
  | inl p ↦ elim y [ inl q ↦ p.1 ∙ sym q.1 | inr q ↦ absurd (q.2 p.0) ]
  | inr p ↦ elim y [ inl q ↦ absurd (p.2 q.0) | inr q ↦ p.3 ∙ sym q.3 ]
]

ends_used : (used b : ℕ) (i : Taken) → EndsAt used b i → i.used ≡ used
ends_used used b i e = elim e [ inl p ↦ ap (λ (t : Taken). t.used) p.1 | inr p ↦ ap (λ (t : Taken). t.used) p.3 ]

no_both : (p : Bits) (a b : List ℕ) (i j : Taken) → ReadsCharacter p a i → ReadsEnd p b j → Agree a b → ⊥
no_both p a b i j r s h = elim (one_or_pair p a i r) [
  | inl m ↦ leads_stop p a b m.c (bits_of m.next) j m.leads (stop_of p b j s) h
  | inr m ↦ leads_stop p a b (high_unit m.c) (bits 16 (low_unit m.c) ++ bits_of m.next) j m.leads (stop_of p b j s) h
]

plus_direct : (x u : ℕ) → x ≡ u → may_be_direct x ≡ true → u ≡ plus → ⊥
plus_direct x u e p q = true≢false (sym p ∙ ap may_be_direct (e ∙ q) ∙ plus_is_not_direct)

minus_digit : (x u : ℕ) → x ≡ u → x ≡ minus → is_digit u ≡ true → ⊥
minus_digit x u e p q = true≢false (sym q ∙ ap is_digit (sym e ∙ p) ∙ minus_is_no_digit)

stop_stop : (p : Bits) (a b : List ℕ) (i j : Taken) → IsStop p a i → IsStop p b j → Agree a b → i ≡ j
stop_stop p a b i j h k g = elim (cases_order h.n k.n) [
  | inl e ↦ (
      let f : get_or a h.n 0 ≡ get_or b k.n 0 = g h.n (omega (arith, h.long)) (omega (arith, k.long))
      ∙ ap (λ (n : ℕ). get_or b n 0) e in
      same_end (h.n + 1) (get_or a h.n 0) i j h.ends (subst (λ (c : ℕ). EndsAt (h.n + 1) c j) (sym f)
      (subst (λ (n : ℕ). EndsAt (n + 1) (get_or b k.n 0) j) (sym e) k.ends)))
  | inr o ↦ elim o [
    | inl l ↦ absurd (
        let e : get_or a h.n 0 ≡ get_or b h.n 0 = g h.n (omega (arith, h.long)) (omega (arith, k.long)) in
        let t : get_or (take k.n b) h.n 0 ≡ get_or b h.n 0 = get_or-take k.n b h.n 0 l in
        let d = AreDigits-at (take k.n b) k.are_digits h.n (simp length-take (omega (arith, k.long))) in
        let f = h.last in
        (let same : true ≡ false = cc in true≢false same))
    | inr l ↦ absurd (
        let e : get_or a k.n 0 ≡ get_or b k.n 0 = g k.n (omega (arith, h.long)) (omega (arith, k.long)) in
        let t : get_or (take h.n a) k.n 0 ≡ get_or a k.n 0 = get_or-take h.n a k.n 0 l in
        let d = AreDigits-at (take h.n a) h.are_digits k.n (simp length-take (omega (arith, h.long))) in
        let f = k.last in
        (let same : true ≡ false = cc in true≢false same))
  ]
]

one_in_shift : (p : Bits) (text a b : List ℕ) (i j : Taken) → utf7_reads (read.Shifted p) a i
    → utf7_reads (read.Shifted p) b j → Begins a text → Begins b text → i ≡ j
one_in_shift p text a b i j x y f g =
    let h : Agree a b = agree-both a b text f g in
    let k : Agree b a = agree-sym a b h in
    elim x [
      | inl r ↦ elim y [
        | inl s ↦ elim (one_or_pair p a i r) [
          | inl m ↦
              elim (one_or_pair p b j s) [ inl n ↦ one_one p a b i j m n h | inr n ↦ absurd (one_pair p a b i j m n h) ]
          | inr m ↦ elim (one_or_pair p b j
              s) [ inl n ↦ absurd (one_pair p b a j i n m k) | inr n ↦ pair_pair p a b i j m n h ]
        ]
        | inr s ↦ absurd (no_both p a b i j r s h)
      ]
      | inr r ↦ elim y [
        | inl s ↦ absurd (no_both p b a j i s r k)
        | inr s ↦ stop_stop p a b i j (stop_of p a i r) (stop_of p b j s) h
      ]
    ]

-- at most one item is at the start of a text outside a shifted sequence
one_at_start : (text a b : List ℕ) (i j : Taken) → ReadsAtStart a i → ReadsAtStart b j → Begins a text → Begins b text
    → i ≡ j
one_at_start text [] b i j p q f g = absurd p
one_at_start text (x ∷ y ∷ z ∷ a) b i j p q f g = absurd p
one_at_start text (x ∷ []) [] i j p q f g = absurd q
one_at_start text (x ∷ y ∷ []) [] i j p q f g = absurd q
one_at_start text (x ∷ []) (u ∷ v ∷ w ∷ b) i j p q f g = absurd q
one_at_start text (x ∷ y ∷ []) (u ∷ v ∷ w ∷ b) i j p q f g = absurd q
one_at_start [] (x ∷ []) (u ∷ []) i j p q f g = absurd f
one_at_start (t ∷ text) (x ∷ []) (u ∷ []) i j p q f g = p.1
    ∙ ap (λ (b : ℕ). taken 1 (Some b) read.Start) (f.0 ∙ sym g.0) ∙ sym q.1
one_at_start [] (x ∷ []) (u ∷ v ∷ []) i j p q f g = absurd f
one_at_start (t ∷ text) (x ∷ []) (u ∷ v ∷ []) i j p q f g = absurd
    (elim q [ inl r ↦ plus_direct x u (f.0 ∙ sym g.0) p.0 r.0 | inr r ↦ plus_direct x u (f.0 ∙ sym g.0) p.0 r.0 ])
one_at_start [] (x ∷ y ∷ []) (u ∷ []) i j p q f g = absurd f
one_at_start (t ∷ text) (x ∷ y ∷ []) (u ∷ []) i j p q f g = absurd
    (elim p [ inl r ↦ plus_direct u x (g.0 ∙ sym f.0) q.0 r.0 | inr r ↦ plus_direct u x (g.0 ∙ sym f.0) q.0 r.0 ])
one_at_start [] (x ∷ y ∷ []) (u ∷ v ∷ []) i j p q f g = absurd f
one_at_start (t ∷ []) (x ∷ y ∷ []) (u ∷ v ∷ []) i j p q f g = absurd f.1
one_at_start (t ∷ s ∷ text) (x ∷ y ∷ []) (u ∷ v ∷ []) i j p q f g = elim p [
  | inl r ↦ elim q [
    | inl m ↦ r.2 ∙ sym m.2
    | inr m ↦ absurd (minus_digit y v (f.1.0 ∙ sym g.1.0) r.1 m.1)
  ]
  | inr r ↦ elim q [
    | inl m ↦ absurd (minus_digit v y (g.1.0 ∙ sym f.1.0) m.1 r.1)
    | inr m ↦ r.2 ∙ sym m.2
  ]
]

uses_in_shift : (p : Bits) (a : List ℕ) (i : Taken) → utf7_reads (read.Shifted p) a i
    → (0 < i.used) × (i.used ≤ length a)
uses_in_shift p a i r = elim r [
  | inl s ↦ (let e : i.used ≡ length a = ap (λ (t : Taken). t.used) s.is in
      let l : 0 < length a = elim (one_or_pair p a i s) [
        | inl m ↦ omega (arith, leads-long p a m.c (bits_of m.next) m.leads, p.few)
        | inr m ↦
            omega (arith, leads-long p a (high_unit m.c) (bits 16 (low_unit m.c) ++ bits_of m.next) m.leads, p.few)
      ] in (omega arith, omega arith))
  | inr s ↦ (let t = stop_of p a i s in let e : i.used ≡ t.n + 1 = ends_used (t.n + 1) (get_or a t.n 0) i t.ends in
      (omega arith, omega (arith, t.long)))
]

uses_at_start : (a : List ℕ) (i : Taken) → ReadsAtStart a i → (0 < i.used) × (i.used ≤ length a)
uses_at_start [] i p = absurd p
uses_at_start (x ∷ y ∷ z ∷ a) i p = absurd p
uses_at_start (x ∷ []) i p = let e : i.used ≡ 1 = ap (λ (t : Taken). t.used) p.1 in (omega arith, omega arith)
uses_at_start (x ∷ y ∷ []) i p = elim p [
  | inl r ↦ (let e : i.used ≡ 2 = ap (λ (t : Taken). t.used) r.2 in (omega arith, omega arith))
  | inr r ↦ (let e : i.used ≡ 1 = ap (λ (t : Taken). t.used) r.2 in (omega arith, omega arith))
]

one_utf7 : (s : ReadState) (text a b : List ℕ) (i j : Taken) → utf7_reads s a i → utf7_reads s b j → Begins a text
    → Begins b text → i ≡ j
one_utf7 read.Start text a b i j p q f g = one_at_start text a b i j p q f g
one_utf7 read.Big text a b i j p q f g = one_at_start text a b i j p q f g
one_utf7 read.Little text a b i j p q f g = one_at_start text a b i j p q f g
one_utf7 (read.Shifted p) text a b i j x y f g = one_in_shift p text a b i j x y f g

uses_utf7 : (s : ReadState) (a : List ℕ) (i : Taken) → utf7_reads s a i → (0 < i.used) × (i.used ≤ length a)
uses_utf7 read.Start a i p = uses_at_start a i p
uses_utf7 read.Big a i p = uses_at_start a i p
uses_utf7 read.Little a i p = uses_at_start a i p
uses_utf7 (read.Shifted p) a i r = uses_in_shift p a i r

-- UTF-7 is readable: at most one item is next, and it uses some bytes
pub utf7_readable : IsReadable utf7_reads
utf7_readable = record { one_item = one_utf7; uses = uses_utf7 }

-- `?` is written in every state
pub utf7_substitutable : CanSubstitute utf7_writes
utf7_substitutable write.Start = refl
utf7_substitutable write.Marked = refl
utf7_substitutable (write.Shifted p) = refl
