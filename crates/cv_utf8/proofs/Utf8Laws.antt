-- The table of UTF-8 has the properties of a codec.
use Rattle.std.proofs.Common.{◌≡◌, ℕ, ◌<◌, ◌≤◌, inl, inr, List, [], ◌∷◌, length, get_or, refl, sym, ◌∙◌, ap, arith}
use Rattle.std.proofs.Common.{Some}
use Rattle.std.proofs.lemmas.Bool.{cases_lt}
use Rattle.cv_base.specs.Items.{Taken, taken, Begins}
use Rattle.cv_base.specs.Codecs.{IsReadable}
use Rattle.cv_base.specs.declared.state.ReadState.{ReadState}
use Rattle.cv_base.specs.declared.state.ReadState.TheVariants as read
use Rattle.cv_base.proofs.Front.{Begins-same}
use Rattle.cv_utf8.specs.Private.Utf8Bytes.{IsTail, IsSecond}
use Rattle.cv_utf8.specs.Utf8.{table, carried, IsOfRow, IsOfOne, utf8_reads, row, range, tail}

-- What a sequence of the table is, for each first byte.
pub record IsSequence (w : List ℕ) (c : ℕ) : Type 0 where
  pub some : 0 < length w
  pub lead : get_or w 0 0 ≤ 0xf4
  pub no_tail : 0x80 ≤ get_or w 0 0 → 0xc2 ≤ get_or w 0 0
  pub one : get_or w 0 0 < 0xc2 → length w ≡ 1
  pub two : 0xc2 ≤ get_or w 0 0 → get_or w 0 0 < 0xe0 → (length w ≡ 2) × IsTail (get_or w 1 0)
  pub second : 0xe0 ≤ get_or w 0 0 → IsSecond (get_or w 0 0) (get_or w 1 0)
  pub third : 0xe0 ≤ get_or w 0 0 → IsTail (get_or w 2 0)
  pub three : 0xe0 ≤ get_or w 0 0 → get_or w 0 0 < 0xf0 → length w ≡ 3
  pub four : 0xf0 ≤ get_or w 0 0 → (length w ≡ 4) × IsTail (get_or w 3 0)
  pub carries : c ≡ carried w

-- what follows from each row follows from the table
by_row : (w : List ℕ) (c : ℕ) (P : Type 0)
    → (IsOfRow (row 0x0000 0x007F (range 0x00 0x7f ∷ [])) w c → P)
    → (IsOfRow (row 0x0080 0x07FF (range 0xc2 0xdf ∷ tail ∷ [])) w c → P)
    → (IsOfRow (row 0x0800 0x0FFF (range 0xe0 0xe0 ∷ range 0xa0 0xbf ∷ tail ∷ [])) w c → P)
    → (IsOfRow (row 0x1000 0xCFFF (range 0xe1 0xec ∷ tail ∷ tail ∷ [])) w c → P)
    → (IsOfRow (row 0xD000 0xD7FF (range 0xed 0xed ∷ range 0x80 0x9f ∷ tail ∷ [])) w c → P)
    → (IsOfRow (row 0xE000 0xFFFF (range 0xee 0xef ∷ tail ∷ tail ∷ [])) w c → P)
    → (IsOfRow (row 0x10000 0x3FFFF (range 0xf0 0xf0 ∷ range 0x90 0xbf ∷ tail ∷ tail ∷ [])) w c → P)
    → (IsOfRow (row 0x40000 0xFFFFF (range 0xf1 0xf3 ∷ tail ∷ tail ∷ tail ∷ [])) w c → P)
    → (IsOfRow (row 0x100000 0x10FFFF (range 0xf4 0xf4 ∷ range 0x80 0x8f ∷ tail ∷ tail ∷ [])) w c → P)
    → IsOfOne table w c → P
by_row w c P f1 f2 f3 f4 f5 f6 f7 f8 f9 h = elim h [
  | inl p ↦ f1 p
  | inr h ↦ elim h [
    | inl p ↦ f2 p
    | inr h ↦ elim h [
      | inl p ↦ f3 p
      | inr h ↦ elim h [
        | inl p ↦ f4 p
        | inr h ↦ elim h [
          | inl p ↦ f5 p
          | inr h ↦ elim h [
            | inl p ↦ f6 p
            | inr h ↦ elim h [
              | inl p ↦ f7 p
              | inr h ↦ elim h [ inl p ↦ f8 p | inr h ↦ elim h [ inl p ↦ f9 p | inr h ↦ absurd h ] ]
            ]
          ]
        ]
      ]
    ]
  ]
]

one_byte : (a c : ℕ) → a ≤ 0x7f → c ≡ a → IsSequence (a ∷ []) c
one_byte a c h e = record {
  some = omega arith;
  lead = omega arith;
  no_tail = λ x. absurd (omega arith);
  one = λ _. refl;
  two = λ x y. absurd (omega arith);
  second = λ x. absurd (omega arith);
  third = λ x. absurd (omega arith);
  three = λ x y. absurd (omega arith);
  four = λ x. absurd (omega arith);
  carries = e;
}

two_bytes : (a b c : ℕ) → 0xc2 ≤ a → a < 0xe0 → IsTail b → c ≡ carried (a ∷ b ∷ []) → IsSequence (a ∷ b ∷ []) c
two_bytes a b c h k t e = record {
  some = omega arith;
  lead = omega arith;
  no_tail = λ x. h;
  one = λ x. absurd (omega arith);
  two = λ x y. (refl, t);
  second = λ x. absurd (omega arith);
  third = λ x. absurd (omega arith);
  three = λ x y. absurd (omega arith);
  four = λ x. absurd (omega arith);
  carries = e;
}

three_bytes : (a b d c : ℕ) → 0xe0 ≤ a → a < 0xf0 → IsSecond a b → IsTail d → c ≡ carried (a ∷ b ∷ d ∷ [])
    → IsSequence (a ∷ b ∷ d ∷ []) c
three_bytes a b d c h k s t e = record {
  some = omega arith;
  lead = omega arith;
  no_tail = λ x. omega arith;
  one = λ x. absurd (omega arith);
  two = λ x y. absurd (omega arith);
  second = λ x. s;
  third = λ x. t;
  three = λ x y. refl;
  four = λ x. absurd (omega arith);
  carries = e;
}

four_bytes : (a b d f c : ℕ) → 0xf0 ≤ a → a ≤ 0xf4 → IsSecond a b → IsTail d → IsTail f
    → c ≡ carried (a ∷ b ∷ d ∷ f ∷ []) → IsSequence (a ∷ b ∷ d ∷ f ∷ []) c
four_bytes a b d f c h k s t u e = record {
  some = omega arith;
  lead = omega arith;
  no_tail = λ x. omega arith;
  one = λ x. absurd (omega arith);
  two = λ x y. absurd (omega arith);
  second = λ x. s;
  third = λ x. t;
  three = λ x y. absurd (omega arith);
  four = λ x. (refl, u);
  carries = e;
}

second_in : (a b : ℕ) → 0x80 ≤ b → b ≤ 0xbf → (a ≡ 0xe0 → 0xa0 ≤ b) → (a ≡ 0xed → b ≤ 0x9f) → (a ≡ 0xf0 → 0x90 ≤ b)
    → (a ≡ 0xf4 → b ≤ 0x8f) → IsSecond a b
second_in a b x y p q r s = (x, y, p, q, r, s)

-- what is in the table is such a sequence
pub sequence_of : (w : List ℕ) (c : ℕ) → IsOfOne table w c → IsSequence w c
sequence_of [] c = by_row [] c (IsSequence [] c) (λ p. absurd p.0) (λ p. absurd p.0) (λ p. absurd p.0) (λ p. absurd p.0)
    (λ p. absurd p.0) (λ p. absurd p.0) (λ p. absurd p.0) (λ p. absurd p.0) (λ p. absurd p.0)
sequence_of (a ∷ []) c = by_row (a ∷ []) c (IsSequence (a ∷ []) c) (λ p. one_byte a c (omega (arith, p.0)) p.2)
    (λ p. absurd p.0.1) (λ p. absurd p.0.1) (λ p. absurd p.0.1) (λ p. absurd p.0.1) (λ p. absurd p.0.1)
    (λ p. absurd p.0.1) (λ p. absurd p.0.1) (λ p. absurd p.0.1)
sequence_of (a ∷ b ∷ []) c = by_row (a ∷ b ∷ []) c (IsSequence (a ∷ b ∷ []) c) (λ p. absurd p.0.1) (λ p.
    two_bytes a b c (omega (arith, p.0)) (omega (arith, p.0)) (p.0.1.0) p.2) (λ p. absurd p.0.1.1) (λ p. absurd p.0.1.1)
    (λ p. absurd p.0.1.1) (λ p. absurd p.0.1.1) (λ p. absurd p.0.1.1) (λ p. absurd p.0.1.1) (λ p. absurd p.0.1.1)
sequence_of (a ∷ b ∷ d ∷ []) c =
    let make : 0xe0 ≤ a → a < 0xf0 → IsSecond a b → IsTail d → c ≡ carried (a ∷ b ∷ d ∷ [])
    → IsSequence (a ∷ b ∷ d ∷ []) c = three_bytes a b d c in
    by_row (a ∷ b ∷ d ∷ []) c (IsSequence (a ∷ b ∷ d ∷ []) c) (λ p. absurd p.0.1) (λ p. absurd p.0.1.1)
    (λ p. make (omega (arith, p.0)) (omega (arith, p.0)) (second_in a b (omega (arith, p.0)) (omega (arith, p.0))
    (λ e. omega (arith, p.0)) (λ e. omega (arith, p.0)) (λ e. omega (arith, p.0)) (λ e. omega (arith, p.0))) p.0.1.1.0
    p.2) (λ p. make (omega (arith, p.0)) (omega (arith, p.0)) (second_in a b (omega (arith, p.0)) (omega (arith, p.0))
    (λ e. omega (arith, p.0)) (λ e. omega (arith, p.0)) (λ e. omega (arith, p.0)) (λ e. omega (arith, p.0))) p.0.1.1.0
    p.2) (λ p. make (omega (arith, p.0)) (omega (arith, p.0)) (second_in a b (omega (arith, p.0)) (omega (arith, p.0))
    (λ e. omega (arith, p.0)) (λ e. omega (arith, p.0)) (λ e. omega (arith, p.0)) (λ e. omega (arith, p.0))) p.0.1.1.0
    p.2) (λ p. make (omega (arith, p.0)) (omega (arith, p.0)) (second_in a b (omega (arith, p.0)) (omega (arith, p.0))
    (λ e. omega (arith, p.0)) (λ e. omega (arith, p.0)) (λ e. omega (arith, p.0)) (λ e. omega (arith, p.0))) p.0.1.1.0
    p.2) (λ p. absurd p.0.1.1.1) (λ p. absurd p.0.1.1.1) (λ p. absurd p.0.1.1.1)
sequence_of (a ∷ b ∷ d ∷ f ∷ []) c =
    let make : 0xf0 ≤ a → a ≤ 0xf4 → IsSecond a b → IsTail d → IsTail f → c ≡ carried (a ∷ b ∷ d ∷ f ∷ [])
    → IsSequence (a ∷ b ∷ d ∷ f ∷ []) c = four_bytes a b d f c in
    by_row (a ∷ b ∷ d ∷ f ∷ []) c (IsSequence (a ∷ b ∷ d ∷ f ∷ []) c) (λ p. absurd p.0.1) (λ p. absurd p.0.1.1)
    (λ p. absurd p.0.1.1.1) (λ p. absurd p.0.1.1.1) (λ p. absurd p.0.1.1.1) (λ p. absurd p.0.1.1.1)
    (λ p. make (omega (arith, p.0)) (omega (arith, p.0)) (second_in a b (omega (arith, p.0)) (omega (arith, p.0))
    (λ e. omega (arith, p.0)) (λ e. omega (arith, p.0)) (λ e. omega (arith, p.0)) (λ e. omega (arith, p.0))) p.0.1.1.0
    p.0.1.1.1.0 p.2) (λ p. make (omega (arith, p.0)) (omega (arith, p.0)) (second_in a b (omega (arith, p.0))
    (omega (arith, p.0)) (λ e. omega (arith, p.0)) (λ e. omega (arith, p.0)) (λ e. omega (arith, p.0))
    (λ e. omega (arith, p.0))) p.0.1.1.0 p.0.1.1.1.0 p.2) (λ p. make (omega (arith, p.0)) (omega (arith, p.0))
    (second_in a b (omega (arith, p.0)) (omega (arith, p.0)) (λ e. omega (arith, p.0)) (λ e. omega (arith, p.0))
    (λ e. omega (arith, p.0)) (λ e. omega (arith, p.0))) p.0.1.1.0 p.0.1.1.1.0 p.2)
sequence_of (a ∷ b ∷ d ∷ f ∷ x ∷ w) c = by_row (a ∷ b ∷ d ∷ f ∷ x ∷ w) c (IsSequence (a ∷ b ∷ d ∷ f ∷ x ∷ w) c)
    (λ p. absurd p.0.1) (λ p. absurd p.0.1.1) (λ p. absurd p.0.1.1.1) (λ p. absurd p.0.1.1.1) (λ p. absurd p.0.1.1.1)
    (λ p. absurd p.0.1.1.1) (λ p. absurd p.0.1.1.1.1) (λ p. absurd p.0.1.1.1.1) (λ p. absurd p.0.1.1.1.1)

same_length : (w v : List ℕ) (c d : ℕ) → IsSequence w c → IsSequence v d → get_or w 0 0 ≡ get_or v 0 0
    → length w ≡ length v
same_length w v c d q r e =
    elim (cases_lt (get_or w 0 0) 0xc2) [
      | inl l ↦ (let m : get_or v 0 0 < 0xc2 = omega arith in omega (arith, q.one l, r.one m))
      | inr l ↦ elim (cases_lt (get_or w 0 0) 0xe0) [
        | inl k ↦ (let m : get_or v 0 0 < 0xe0 = omega arith in let n : 0xc2 ≤ get_or v 0 0 = omega arith in
            omega (arith, (q.two l k).0, (r.two n m).0))
        | inr k ↦ elim (cases_lt (get_or w 0 0) 0xf0) [
          | inl j ↦ (let m : get_or v 0 0 < 0xf0 = omega arith in let n : 0xe0 ≤ get_or v 0 0 = omega arith in
              omega (arith, q.three k j, r.three n m))
          | inr j ↦ (let m : 0xf0 ≤ get_or v 0 0 = omega arith in omega (arith, (q.four j).0, (r.four m).0))
        ]
      ]
    ]

Begins-first : (a text : List ℕ) → 0 < length a → Begins a text → get_or a 0 0 ≡ get_or text 0 0
Begins-first [] text h p = absurd (omega arith)
Begins-first (x ∷ a) [] h p = absurd p
Begins-first (x ∷ a) (t ∷ text) h p = p.0

one_utf8 : (s : ReadState) (text a b : List ℕ) (i j : Taken) → utf8_reads s a i → utf8_reads s b j → Begins a text
    → Begins b text → i ≡ j
one_utf8 s text a b i j p q f g =
    let m = sequence_of a p.0 p.1 in
    let n = sequence_of b q.0 q.1 in
    let l : length a ≡ length b =
    same_length a b p.0 q.0 m n (Begins-first a text m.some f ∙ sym (Begins-first b text n.some g)) in
    let e : a ≡ b = Begins-same a b text f g l in
    let c_is : p.0 ≡ q.0 = m.carries ∙ ap carried e ∙ sym n.carries in
    p.2 ∙ (let same : taken (length a) (Some p.0) read.Start ≡ taken (length b) (Some q.0) read.Start = cc in same)
    ∙ sym q.2

uses_utf8 : (s : ReadState) (a : List ℕ) (i : Taken) → utf8_reads s a i → (0 < i.used) × (i.used ≤ length a)
uses_utf8 s a i p = let m = sequence_of a p.0 p.1 in let e : i.used ≡ length a = ap (λ t. t.used) p.2 in
    (omega (arith, m.some), omega arith)

-- UTF-8 is readable
pub utf8_readable : IsReadable utf8_reads
utf8_readable = record { one_item = one_utf8; uses = uses_utf8 }
