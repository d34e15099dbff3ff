-- What is written is read back.
use Rattle.std.proofs.Common.{◌≡◌, ℕ, ◌+◌, ◌-◌, ◌*◌, ◌/◌, ◌%◌, ◌<◌, ◌≤◌, Bool, true, false, ◌||◌, List, [], ◌∷◌, ◌++◌}
use Rattle.std.proofs.Common.{length, take, drop, replicate, refl, sym, ◌∙◌, ap, subst, arith, inl, inr, Some, None}
use Rattle.std.proofs.Common.{option_to_list}
use Rattle.std.proofs.lemmas.Bool.{cases_Bool, cases_eq, eq-eqb, or_cases, or_right}
use Rattle.std.proofs.lemmas.List.{length-append, append_assoc, append-nil, length-take-le, length-replicate}
use Rattle.std.proofs.lemmas.List.{take-append-drop, drop_at}
use Rattle.cv_block.proofs.FormRuns.{AreScalars-append}
use Rattle.cv_base.specs.Scalars.{IsScalar, AreScalars}
use Rattle.cv_base.specs.Items.{Taken, taken}
use Rattle.cv_base.proofs.Front.{Begins-append}
use Rattle.cv_base.specs.declared.state.Bits.{Bits}
use Rattle.cv_base.specs.declared.state.ReadState.{ReadState}
use Rattle.cv_base.specs.declared.state.ReadState.TheVariants as read
use Rattle.cv_base.specs.declared.state.WriteState.{WriteState}
use Rattle.cv_base.specs.declared.state.WriteState.TheVariants as write
use Rattle.cv_utf7.specs.Sets.{is_digit, is_direct, may_be_direct, is_set_d, is_set_o, is_blank, digit_of}
use Rattle.cv_utf7.specs.BitLists.{number, bits_of, character_bits, AreDigits, digit_bits, digits, over}
use Rattle.cv_utf7.proofs.BitStrings.{length-bits}
use Rattle.cv_utf7.proofs.CodeUnits.{character_length}
use Rattle.cv_base.specs.Chains.{Output, output_for, written}
use Rattle.cv_base.specs.ReadBack.{ReadsBack}
use Rattle.cv_base.proofs.ReadBacks.{IsReadFrom}
use Rattle.cv_utf7.proofs.Digits.{some_digits, six, length-digits, no_digits, AreDigits-cons, AreDigits-at}
use Rattle.cv_utf7.proofs.Digits.{digit_bits-append, digit_bits-cut, AreDigits-append, AreDigits-take, AreDigits-drop}
use Rattle.cv_utf7.specs.Utf7.{plus, minus, ReadsCharacter, written_bits, last_digit, utf7_reads, utf7_writes}
use Rattle.cv_utf7.specs.Utf7.{utf7_closes, writes_at_start}
use Rattle.cv_utf7.specs.PendingBits.{pending_of}
use Rattle.cv_utf7.proofs.Cuts.{last_digit_six}
use Rattle.cv_utf7.proofs.PendingBits.{pending_bits}
use Rattle.cv_utf7.proofs.Writes.{start_direct, start_other, shift_direct, shift_other}

-- the bits of characters
all_bits : List ℕ → List Bool
all_bits [] = []
all_bits (c ∷ characters) = character_bits c ++ all_bits characters

all_bits-snoc : (os : List ℕ) (c : ℕ) → all_bits (os ++ c ∷ []) ≡ all_bits os ++ character_bits c
unfolding all_bits
all_bits-snoc [] c = append-nil (character_bits c)
all_bits-snoc (o ∷ os) c = ap (λ (t : List Bool). character_bits o ++ t) (all_bits-snoc os c)
    ∙ sym (append_assoc (character_bits o) (all_bits os) (character_bits c))

all_even : (os : List ℕ) → length (all_bits os) % 2 ≡ 0
unfolding all_bits
all_even [] = refl
all_even (c ∷ os) = elim (character_length c) [
  | inl e ↦ rw length-append (omega (arith, all_even os))
  | inr e ↦ rw length-append (omega (arith, all_even os))
]

-- of two prefixes of one list, the longer one is the shorter one and more
cut_list : (a b c d : List Bool) → a ++ b ≡ c ++ d → length c ≤ length a → (q : List Bool) × (a ≡ c ++ q) × (d ≡ q ++ b)
cut_list a b [] d e l = (a, refl, sym e)
cut_list [] b (y ∷ c) d e l = absurd (omega arith)
cut_list (x ∷ a) b (y ∷ c) d e l =
    let h : x ≡ y = cc in
    let t : a ++ b ≡ c ++ d = cc in
    let r = cut_list a b c d t (omega arith) in
    (r.0, cc (h, r.1), r.2)

-- From a state these bytes are a chain that gives these characters.
abbrev IsRead : ReadState → List ℕ → List ℕ → Type 0
IsRead s text characters = IsReadFrom utf7_reads s text characters (λ next. Unit {0})

-- no bytes are read as no characters
nothing_read : (s : ReadState) → IsRead s [] []
nothing_read s = record { chain = []; is_chain = tt; whole = refl; gives = refl; after = tt }

-- an item before what is read
front_item : (s : ReadState) (w rest : List ℕ) (i : Taken) (characters : List ℕ) → utf7_reads s w i → i.used ≡ length w
    → IsRead i.next rest characters → IsRead s (w ++ rest) (option_to_list i.gives ++ characters)
front_item s w rest i characters r u h = record {
  chain = i ∷ h.chain;
  is_chain =
      (record { bytes = w; is_item = r; front = Begins-append w rest }, rw (drop_at w rest i.used (sym u)) h.is_chain);
  whole = omega (arith, h.whole, length-append w rest);
  gives = ap (λ (l : List ℕ). option_to_list i.gives ++ l) h.gives;
  after = tt;
}

-- the first character of digits
record Split (c : ℕ) (r : Bits) (w : List ℕ) (tail : List Bool) : Type 0 where
  n : ℕ
  next : Bits
  reads : ReadsCharacter r (take n w) (taken (length (take n w)) (Some c) (read.Shifted next))
  after : bits_of next ++ digit_bits (drop n w) ≡ tail

split_at : (c : ℕ) (r : Bits) (w : List ℕ) (tail : List Bool) (n : ℕ) → AreDigits w → IsScalar c → bits_of r
    ++ digit_bits w ≡ character_bits c ++ tail → n ≤ length w → length (character_bits c) ≤ r.count + 6 * n → r.count
    + 6 * n < length (character_bits c) + 6 → (r.count + 6 * n) % 2 ≡ length (character_bits c) % 2 → Split c r w tail
split_at c r w tail n d s e l a b v =
    let whole : (bits_of r ++ digit_bits (take n w)) ++ digit_bits (drop n w) ≡ character_bits c ++ tail =
    append_assoc (bits_of r) (digit_bits (take n w)) (digit_bits (drop n w))
    ∙ ap (λ (t : List Bool). bits_of r ++ t) (sym (digit_bits-cut n w)) ∙ e in
    let long : length (bits_of r ++ digit_bits (take n w)) ≡ r.count + 6 * n = length-append (bits_of r)
    (digit_bits (take n w)) ∙ (let x : length (bits_of r) ≡ r.count = length-bits r.count r.value in
    let y : length (take n w) ≡ n = length-take-le n w l in omega (arith, length-digits (take n w))) in
    let cut =
    cut_list (bits_of r ++ digit_bits (take n w)) (digit_bits (drop n w)) (character_bits c) tail whole (omega arith) in
    let q : length cut.0 + length (character_bits c) ≡ r.count + 6 * n =
    (let x : length (bits_of r ++ digit_bits (take n w)) ≡ length (character_bits c ++ cut.0) = ap length cut.1 in
    omega (arith, length-append (character_bits c) cut.0)) in
    let same : bits_of (pending_of cut.0) ≡ cut.0 = pending_bits cut.0 (omega arith) (omega arith) in
    record {
      n = n;
      next = pending_of cut.0;
      reads = record {
        c = c;
        next = pending_of cut.0;
        scalar = s;
        are_digits = AreDigits-take n w d;
        same_bits = cut.1 ∙ ap (λ (t : List Bool). character_bits c ++ t) (sym same);
        is = refl;
      };
      after = ap (λ (t : List Bool). t ++ digit_bits (drop n w)) same ∙ sym cut.2;
    }

split : (c : ℕ) (r : Bits) (w : List ℕ) (tail : List Bool) → AreDigits w → IsScalar c
    → bits_of r ++ digit_bits w ≡ character_bits c ++ tail → Split c r w tail
split c r w tail d s e =
    let long : r.count + 6 * length w ≡ length (character_bits c) + length tail = (
    let x : length (bits_of r ++ digit_bits w) ≡ length (character_bits c ++ tail) = ap length e in
    let y : length (bits_of r) ≡ r.count = length-bits r.count r.value in
    omega (arith, length-append (bits_of r) (digit_bits w), length-append (character_bits c) tail, length-digits w)) in
    elim (character_length c) [
      | inl z ↦ split_at c r w tail ((16 - r.count + 5) / 6) d s e (omega (arith, r.few)) (omega (arith, r.few))
          (omega (arith, r.few)) (omega (arith, r.even))
      | inr z ↦ split_at c r w tail ((32 - r.count + 5) / 6) d s e (omega (arith, r.few)) (omega (arith, r.few))
          (omega (arith, r.few)) (omega (arith, r.even))
    ]

-- The digits of characters, closed, are read as them.
deliver : (os : List ℕ) (r : Bits) (w : List ℕ) (k : ℕ) (rest characters : List ℕ) → AreDigits w → AreScalars os → k < 6
    → bits_of r ++ digit_bits w ≡ all_bits os ++ replicate k false
    → IsRead read.Start rest characters → IsRead (read.Shifted r) (w ++ minus ∷ rest) (os ++ characters)
unfolding all_bits
deliver [] r w k rest characters d s l e h =
    let x : utf7_reads (read.Shifted r) (w ++ minus ∷ []) (taken (length (w ++ minus ∷ [])) None read.Start) =
    inr (record {
      front = w;
      last = minus;
      left = k;
      are_digits = d;
      few = omega arith;
      zero_bits = e;
      whole = refl;
      ends = inl (refl, refl);
    }) in
    subst (λ (t : List ℕ). IsRead (read.Shifted r) t characters) (append_assoc w (minus ∷ []) rest) (front_item
    (read.Shifted r) (w ++ minus ∷ []) rest (taken (length (w ++ minus ∷ [])) None read.Start) characters x refl h)
deliver (c ∷ os) r w k rest characters d s l e h =
    let p = split c r w (all_bits os ++ replicate k false) d s.0
    (e ∙ append_assoc (character_bits c) (all_bits os) (replicate k false)) in
    let t : IsRead (read.Shifted p.next) (drop p.n w ++ minus ∷ rest) (os ++ characters) =
    deliver os p.next (drop p.n w) k rest characters (AreDigits-drop p.n w d) s.1 l p.after h in
    subst (λ (t : List ℕ). IsRead (read.Shifted r) t (c ∷ (os ++ characters))) (sym (append_assoc (take p.n w)
    (drop p.n w) (minus ∷ rest)) ∙ ap (λ (u : List ℕ). u ++ minus ∷ rest) (take-append-drop p.n w))
    (front_item (read.Shifted r) (take p.n w) (drop p.n w ++ minus ∷ rest)
    (taken (length (take p.n w)) (Some c) (read.Shifted p.next)) (os ++ characters) (inl p.reads) refl t)

-- digits and what is over are the bits
cut_back : (l : List Bool) → length l % 2 ≡ 0
    → AreDigits (digits l) × (digit_bits (digits l) ++ bits_of (pending_of (over l)) ≡ l)
cut_back [] e = (no_digits, pending_bits [] (omega arith) refl)
cut_back (a ∷ []) e = absurd (omega arith)
cut_back (a ∷ b ∷ []) e = (no_digits, pending_bits (a ∷ b ∷ []) (omega arith) refl)
cut_back (a ∷ b ∷ c ∷ []) e = absurd (omega arith)
cut_back (a ∷ b ∷ c ∷ d ∷ []) e = (no_digits, pending_bits (a ∷ b ∷ c ∷ d ∷ []) (omega arith) refl)
cut_back (a ∷ b ∷ c ∷ d ∷ f ∷ []) e = absurd (omega arith)
cut_back (a ∷ b ∷ c ∷ d ∷ f ∷ g ∷ l) e =
    let s = six (a ∷ b ∷ c ∷ d ∷ f ∷ g ∷ []) refl in
    let r = cut_back l (omega arith) in (
      AreDigits-cons _ _ s.0 r.0,
      ap (λ (t : List Bool). (t ++ digit_bits (digits l)) ++ bits_of (pending_of (over l))) s.1
          ∙ ap (λ (t : List Bool). a ∷ b ∷ c ∷ d ∷ f ∷ g ∷ t) r.1,
    )

-- the closing digit is the pending bits followed by zero bits
last_back : (l : List Bool) → length l < 6
    → (k : ℕ) × (k < 6) × AreDigits (last_digit l) × (digit_bits (last_digit l) ≡ l ++ replicate k false)
last_back [] h = (0, omega arith, no_digits, refl)
last_back (a ∷ l) h =
    let e : length ((a ∷ l) ++ replicate (5 - length l) false) ≡ 6 =
    length-append (a ∷ l) (replicate (5 - length l) false) ∙ omega (arith, length-replicate (5 - length l) false) in
    let s = six ((a ∷ l) ++ replicate (5 - length l) false) e in
    let d : last_digit (a ∷ l) ≡ digit_of (number ((a ∷ l) ++ replicate (5 - length l) false)) ∷ [] =
    last_digit_six (a ∷ l) (5 - length l) (omega arith) (omega arith) in (
      5 - length l,
      omega arith,
      subst AreDigits (sym d) (AreDigits-cons _ [] s.0 no_digits),
      ap digit_bits d ∙ append-nil _ ∙ s.1,
    )

may_of : (c : ℕ) → is_direct c ≡ true → may_be_direct c ≡ true
unfolding is_direct may_be_direct
may_of c e = elim (or_cases (is_set_d c) (is_blank c) e) [
  | inl d ↦ rw d refl
  | inr b ↦ rw b (or_right (is_set_d c || is_set_o c) true refl)
]

-- a direct character before others
direct_front : (c : ℕ) (rest characters : List ℕ) → is_direct c ≡ true → IsRead read.Start rest characters
    → IsRead read.Start (c ∷ rest) (c ∷ characters)
direct_front c rest characters e h =
    front_item read.Start (c ∷ []) rest (taken 1 (Some c) read.Start) characters (may_of c e, refl) refl h

none_bits : bits_of (pending_of []) ≡ []
none_bits = pending_bits [] (omega arith) refl

-- `+` before a digit begins a shifted sequence
plus_front : (d : ℕ) (rest characters : List ℕ) → is_digit d ≡ true
    → IsRead (read.Shifted (pending_of [])) (d ∷ rest) characters → IsRead read.Start (plus ∷ d ∷ rest) characters
plus_front d rest characters e h = record {
  chain = taken 1 None (read.Shifted (pending_of [])) ∷ h.chain;
  is_chain = (record { bytes = plus ∷ d ∷ []; is_item = inr (refl, e, refl); front = (refl, (refl, tt)) }, h.is_chain);
  whole = omega (arith, h.whole);
  gives = h.gives;
  after = tt;
}

plus_digits : (w rest characters : List ℕ) → AreDigits w → 0 < length w
    → IsRead (read.Shifted (pending_of [])) (w ++ rest) characters → IsRead read.Start (plus ∷ w ++ rest) characters
plus_digits [] rest characters d l h = absurd (omega arith)
plus_digits (b ∷ w) rest characters d l h = plus_front b (w ++ rest) characters (AreDigits-at (b ∷ w) d 0 l) h

-- what is written for characters from a state, and closed
abbrev text_of : WriteState → List ℕ → List ℕ
text_of t [] = utf7_closes t
text_of t (c ∷ characters) =
    (written utf7_writes t (Some c)).bytes ++ text_of (written utf7_writes t (Some c)).next characters

text_is : (t : WriteState) (characters : List ℕ)
    → (let o : Output = output_for utf7_writes t characters in o.bytes ++ utf7_closes o.next ≡ text_of t characters)
text_is t [] = refl
text_is t (c ∷ characters) =
    let first : Output = written utf7_writes t (Some c) in
    let rest : Output = output_for utf7_writes first.next characters in
    append_assoc first.bytes rest.bytes (utf7_closes rest.next)
    ∙ ap (λ (x : List ℕ). first.bytes ++ x) (text_is first.next characters)

-- What is written for characters outside a shifted sequence, and closed, is read as them.
abbrev FromStart : List ℕ → Type 0
FromStart cs = IsRead read.Start (text_of write.Start cs) cs

abbrev FromShift : List ℕ → Type 0
FromShift cs = (r p : Bits) (z os : List ℕ) → AreDigits z → AreScalars os → (bits_of r ++ digit_bits z) ++ bits_of p
    ≡ all_bits os → IsRead (read.Shifted r) (z ++ text_of (write.Shifted p) cs) (os ++ cs)

closed : (r p : Bits) (z os rest characters : List ℕ) → AreDigits z
    → AreScalars os → (bits_of r ++ digit_bits z) ++ bits_of p ≡ all_bits os → IsRead read.Start rest characters
    → IsRead (read.Shifted r) ((z ++ last_digit (bits_of p)) ++ minus ∷ rest) (os ++ characters)
closed r p z os rest characters d s e h =
    let k = last_back (bits_of p) (omega (arith, length-bits p.count p.value, p.few)) in
    deliver os r (z ++ last_digit (bits_of p)) k.0 rest characters
    (AreDigits-append z (last_digit (bits_of p)) d k.2) s k.1 (ap (λ (t : List Bool). bits_of r ++ t)
    (digit_bits-append z (last_digit (bits_of p)) ∙ ap (λ (t : List Bool). digit_bits z ++ t) k.3)
    ∙ sym (append_assoc (bits_of r) (digit_bits z) (bits_of p ++ replicate k.0 false)) ∙ sym (append_assoc
    (bits_of r ++ digit_bits z) (bits_of p) (replicate k.0 false)) ∙ ap (λ (t : List Bool). t ++ replicate k.0 false) e)
    h

end_shift : FromShift []
end_shift r p z os d s e =
    subst (λ (t : List ℕ). IsRead (read.Shifted r) t (os ++ [])) (append_assoc z (last_digit (bits_of p)) (minus ∷ []))
    (closed r p z os [] [] d s e (nothing_read read.Start))

start_sign : (c : ℕ) → is_direct c ≡ false → c ≡ plus → writes_at_start c ≡ (plus ∷ minus ∷ [], write.Start)
start_sign c e f = rw (e, eq-eqb c plus f) refl

regroup : (z l : List ℕ) (c : ℕ) (rest : List ℕ)
    → (z ++ l) ++ minus ∷ (c ∷ rest) ≡ z ++ (((l ++ minus ∷ []) ++ c ∷ []) ++ rest)
regroup z l c rest = simp append_assoc

shift_on : (c : ℕ) (cs : List ℕ) → IsScalar c → FromShift cs → (r p : Bits) (z os : List ℕ) → AreDigits z
    → AreScalars os → (bits_of r ++ digit_bits z) ++ bits_of p ≡ all_bits os
    → IsRead (read.Shifted r) (z ++ (digits (bits_of p ++ character_bits c)
    ++ text_of (write.Shifted (pending_of (over (bits_of p ++ character_bits c)))) cs)) (os ++ c ∷ cs)
shift_on c cs i h r p z os d s e =
    let b : List Bool = bits_of p ++ character_bits c in
    let v : length (bits_of p ++ character_bits c) % 2 ≡ 0 =
    (let a : length (bits_of p) ≡ p.count = length-bits p.count p.value in elim (character_length
    c) [ inl z ↦ rw length-append (omega (arith, p.even)) | inr z ↦ rw length-append (omega (arith, p.even)) ]) in
    let k = cut_back (bits_of p ++ character_bits c) v in
    let g = h r (pending_of (over (bits_of p ++ character_bits c))) (z ++ digits (bits_of p ++ character_bits c))
    (os ++ c ∷ []) (AreDigits-append z (digits (bits_of p ++ character_bits c)) d k.0) (AreScalars-append os (c ∷ []) s
    (i, tt)) (ap (λ (t : List Bool). (bits_of r ++ t) ++ bits_of (pending_of (over (bits_of p ++ character_bits c))))
    (digit_bits-append z (digits (bits_of p ++ character_bits c)))
    ∙ ap (λ (t : List Bool). t ++ bits_of (pending_of (over (bits_of p ++ character_bits c))))
    (sym (append_assoc (bits_of r) (digit_bits z) (digit_bits (digits (bits_of p ++ character_bits c)))))
    ∙ append_assoc (bits_of r ++ digit_bits z) (digit_bits (digits (bits_of p ++ character_bits c))) (bits_of
    (pending_of (over (bits_of p ++ character_bits c)))) ∙ ap (λ (t : List Bool). (bits_of r ++ digit_bits z) ++ t) k.1
    ∙ sym (append_assoc (bits_of r ++ digit_bits z) (bits_of p) (character_bits c))
    ∙ ap (λ (t : List Bool). t ++ character_bits c) e
    ∙ sym (all_bits-snoc os c)) in
    subst (λ (t : List ℕ). IsRead (read.Shifted r) (z ++ (digits (bits_of p ++ character_bits c)
    ++ text_of (write.Shifted (pending_of (over (bits_of p ++ character_bits c)))) cs)) t) (append_assoc os (c ∷ []) cs)
    (subst (λ (t : List ℕ). IsRead (read.Shifted r) t ((os ++ c ∷ []) ++ cs)) (append_assoc z (digits (bits_of p
    ++ character_bits c)) (text_of (write.Shifted (pending_of (over (bits_of p ++ character_bits c)))) cs)) g)

more_start : (c : ℕ) (cs : List ℕ) → IsScalar c → FromStart cs → FromShift cs → FromStart (c ∷ cs)
unfolding all_bits
more_start c cs i a b = elim (cases_Bool (is_direct c)) [
  | inl e ↦ subst (λ (n : List ℕ × WriteState). IsRead read.Start (n.0 ++ text_of n.1 cs) (c ∷ cs))
      (sym (start_direct c e)) (direct_front c (text_of write.Start cs) cs e a)
  | inr e ↦ elim (cases_eq c plus) [
    | inl f ↦ subst (λ (n : List ℕ × WriteState). IsRead read.Start (n.0 ++ text_of n.1 cs) (c ∷ cs))
        (sym (start_sign c e f)) (
        subst (λ (d : ℕ). IsRead read.Start (plus ∷ minus ∷ text_of write.Start cs) (d ∷ cs)) (sym f)
        (front_item read.Start (plus ∷ minus ∷ []) (text_of write.Start cs) (taken 2 (Some plus) read.Start) cs
        (inl (refl, refl, refl)) refl a))
    | inr f ↦ (
        let v : length (character_bits c) % 2 ≡ 0 =
        elim (character_length c) [ inl z ↦ omega arith | inr z ↦ omega arith ] in
        let k = cut_back (character_bits c) v in
        let g = b (pending_of []) (pending_of (over (character_bits c))) (digits (character_bits c))
        (c ∷ []) k.0 (i, tt) (ap (λ (t : List Bool). (t ++ digit_bits (digits (character_bits c)))
        ++ bits_of (pending_of (over (character_bits c)))) none_bits ∙ k.1 ∙ sym (append-nil (character_bits c))) in
        subst (λ (n : List ℕ × WriteState). IsRead read.Start (n.0 ++ text_of n.1 cs) (c ∷ cs))
        (sym (start_other c (character_bits c) (written_bits (character_bits c)) e f refl refl)) (plus_digits
        (digits (character_bits c)) (text_of (write.Shifted (pending_of (over (character_bits c)))) cs) (c ∷ cs) k.0
        (some_digits (character_bits c) (elim (character_length c) [ inl e ↦ omega arith | inr e ↦ omega arith ])) g))
  ]
]

more_shift : (c : ℕ) (cs : List ℕ) → IsScalar c → FromStart cs → FromShift cs → FromShift (c ∷ cs)
more_shift c cs i a b r p z os d s e = elim (cases_Bool (is_direct c)) [
  | inl f ↦ subst (λ (n : List ℕ × WriteState). IsRead (read.Shifted r) (z ++ (n.0 ++ text_of n.1 cs)) (os ++ c ∷ cs))
      (sym (shift_direct p c f)) (subst (λ (t : List ℕ). IsRead (read.Shifted r) t (os ++ c ∷ cs))
      (regroup z (last_digit (bits_of p)) c (text_of write.Start cs))
      (closed r p z os (c ∷ text_of write.Start cs) (c ∷ cs) d s e (direct_front c (text_of write.Start cs) cs f a)))
  | inr f ↦ subst (λ (n : List ℕ × WriteState). IsRead (read.Shifted r) (z ++ (n.0 ++ text_of n.1 cs)) (os ++ c ∷ cs))
      (sym (shift_other p c f)) (shift_on c cs i b r p z os d s e)
]

both : (cs : List ℕ) → AreScalars cs → FromStart cs × FromShift cs
both [] s = (nothing_read read.Start, end_shift)
both (c ∷ cs) s = let h = both cs s.1 in (more_start c cs s.0 h.0 h.1, more_shift c cs s.0 h.0 h.1)

-- whole texts are read back
pub utf7_reads_back : ReadsBack utf7_reads utf7_writes utf7_closes
utf7_reads_back characters scalars e =
    let text = rw (← text_is write.Start characters) at (both characters scalars).0 in
    record { chain = text.chain; is_chain = text.is_chain; whole = text.whole; gives = text.gives }
