-- The next item of UTF-8.
use Rattle.std.proofs.Common.{◌≡◌, ℕ, Bool, true, false, cond, nat_lt, ◌+◌, ◌*◌, ◌/◌, ◌%◌, ◌<◌, ◌≤◌, inl, inr, List}
use Rattle.std.proofs.Common.{[], ◌∷◌, length, get_or, refl, sym, arith, Some}
use Rattle.std.proofs.lemmas.Bool.{cases_lt}
use Rattle.cv_base.specs.Scalars.{IsScalar}
use Rattle.cv_base.specs.Items.{taken, Begins, Stands, IsNext}
use Rattle.cv_base.specs.Codecs.{WritesAtMost}
use Rattle.cv_base.specs.Ascii.{ReadsAscii}
use Rattle.cv_base.specs.declared.ascii_form.AsciiForm.TheVariants.{Byte}
use Rattle.cv_base.specs.declared.state.ReadState.{ReadState}
use Rattle.cv_base.specs.declared.state.ReadState.TheVariants as read
use Rattle.cv_base.specs.declared.item.Item.TheVariants.{Incomplete, Ill}
use Rattle.cv_base.proofs.Front.{Agree, Begins-agree}
use Rattle.cv_utf8.specs.Utf8.{table, carried, IsOfOne, utf8_reads, utf8_writes}
use Rattle.cv_utf8.specs.Private.Utf8Bytes.{IsTail, IsSecond}
use Rattle.cv_utf8.proofs.Utf8Laws.{IsSequence, sequence_of}

-- a sequence whose first byte is E0 or more has at least three bytes
long : (w : List ℕ) (c : ℕ) → IsSequence w c → 0xe0 ≤ get_or w 0 0 → 3 ≤ length w
long w c q h =
    elim (cases_lt (get_or w 0 0) 0xf0) [ inl l ↦ omega (arith, q.three h l) | inr l ↦ omega (arith, (q.four l).0) ]

ill_from : (s : ReadState) (x : List ℕ) → 0 < length x → ((w : List ℕ) (c : ℕ) → IsSequence w c → Agree w x → ⊥)
    → IsNext utf8_reads s x Ill
ill_from s x n never = (
  n,
  λ i p. never p.bytes p.is_item.0 (sequence_of p.bytes p.is_item.0 p.is_item.1) (Begins-agree p.bytes x p.front).1,
  λ p. never p.bytes p.is_item.0 (sequence_of p.bytes p.is_item.0 p.is_item.1)
      (λ k l m. sym ((Begins-agree x p.bytes p.front).1 k m l)),
)

incomplete_from : (s : ReadState) (x : List ℕ)
    → 0 < length x → ((w : List ℕ) (c : ℕ) → IsSequence w c → Agree w x → length x < length w) → (more : List ℕ) (c : ℕ)
    → IsOfOne table more c → Begins x more → IsNext utf8_reads s x Incomplete
incomplete_from s x n longer more c is front = (
  n,
  λ i p. (let b = Begins-agree p.bytes x p.front in
      let l = longer p.bytes p.is_item.0 (sequence_of p.bytes p.is_item.0 p.is_item.1) b.1 in omega (arith, b.0, l)),
  record { bytes = more; item = taken (length more) (Some c) read.Start; is_item = (c, is, refl); front = front },
)

-- a first byte from 80 to C1, which no sequence has
pub ill_low : (s : ReadState) (x : List ℕ) → 0 < length x → 0x80 ≤ get_or x 0 0 → get_or x 0 0 < 0xc2
    → IsNext utf8_reads s x Ill
ill_low s x n h k = ill_from s x n (λ w c q a. omega (arith, a 0 q.some n, q.no_tail))

-- a first byte above F4
pub ill_high : (s : ReadState) (x : List ℕ) → 0 < length x → 0xf4 < get_or x 0 0 → IsNext utf8_reads s x Ill
ill_high s x n h = ill_from s x n (λ w c q a. omega (arith, a 0 q.some n, q.lead))

-- after a first byte of two, a second byte that is no continuation byte
pub ill_of_two : (s : ReadState) (x : List ℕ) → 2 ≤ length x → 0xc2 ≤ get_or x 0 0 → get_or x 0 0 < 0xe0
    → (IsTail (get_or x 1 0) → ⊥) → IsNext utf8_reads s x Ill
ill_of_two s x n h k never = ill_from s x (omega arith) (λ w c q a.
    let e : get_or w 0 0 ≡ get_or x 0 0 = a 0 q.some (omega arith) in
    let t = q.two (omega arith) (omega arith) in
    let f : get_or w 1 0 ≡ get_or x 1 0 = a 1 (omega arith) (omega arith) in
    never (rw (← f) t.1))

-- a second byte that does not fit the first
pub ill_second : (s : ReadState) (x : List ℕ) → 2 ≤ length x → 0xe0 ≤ get_or x 0 0 → get_or x 0 0 ≤ 0xf4
    → (IsSecond (get_or x 0 0) (get_or x 1 0) → ⊥) → IsNext utf8_reads s x Ill
ill_second s x n h k never = ill_from s x (omega arith) (λ w c q a.
    let e : get_or w 0 0 ≡ get_or x 0 0 = a 0 q.some (omega arith) in
    let l : 3 ≤ length w = long w c q (omega arith) in
    let f : get_or w 1 0 ≡ get_or x 1 0 = a 1 (omega arith) (omega arith) in
    never (rw (← e, ← f) (q.second (omega arith))))

-- a third byte that is no continuation byte
pub ill_third : (s : ReadState) (x : List ℕ) → 3 ≤ length x → 0xe0 ≤ get_or x 0 0 → get_or x 0 0 ≤ 0xf4
    → (IsTail (get_or x 2 0) → ⊥) → IsNext utf8_reads s x Ill
ill_third s x n h k never = ill_from s x (omega arith) (λ w c q a.
    let e : get_or w 0 0 ≡ get_or x 0 0 = a 0 q.some (omega arith) in
    let l : 3 ≤ length w = long w c q (omega arith) in
    let f : get_or w 2 0 ≡ get_or x 2 0 = a 2 (omega arith) (omega arith) in
    never (rw (← f) (q.third (omega arith))))

-- a fourth byte that is no continuation byte
pub ill_fourth : (s : ReadState) (x : List ℕ) → 4 ≤ length x → 0xf0 ≤ get_or x 0 0 → get_or x 0 0 ≤ 0xf4
    → (IsTail (get_or x 3 0) → ⊥) → IsNext utf8_reads s x Ill
ill_fourth s x n h k never = ill_from s x (omega arith) (λ w c q a.
    let e : get_or w 0 0 ≡ get_or x 0 0 = a 0 q.some (omega arith) in
    let t = q.four (omega arith) in
    let f : get_or w 3 0 ≡ get_or x 3 0 = a 3 (omega arith) (omega arith) in
    never (rw (← f) t.1))

-- two bytes that fit are in the table
pub row_2 : (a b : ℕ) → 0xc2 ≤ a → a < 0xe0 → IsTail b → IsOfOne table (a ∷ b ∷ []) (carried (a ∷ b ∷ []))
row_2 a b h k t = inr (inl (((h, omega arith), (t, tt)), (omega arith, omega arith), refl))

-- three bytes that fit are in the table
pub row_3 : (a b d : ℕ) → 0xe0 ≤ a → a < 0xf0 → IsSecond a b → IsTail d
    → IsOfOne table (a ∷ b ∷ d ∷ []) (carried (a ∷ b ∷ d ∷ []))
row_3 a b d h k t u =
    elim (cases_lt a 0xe1) [
      | inl l ↦ (let e : a ≡ 0xe0 = omega arith in inr
          (inr (inl (((h, omega arith), ((t.2 e, t.1), (u, tt))), (omega (arith, t.2 e), omega (arith, t.2 e)), refl))))
      | inr l ↦ elim (cases_lt a 0xed) [
        | inl m ↦ inr (inr (inr (inl (((l, omega arith), ((t.0, t.1), (u, tt))), (omega arith, omega arith), refl))))
        | inr m ↦ elim (cases_lt a 0xee) [
          | inl n ↦ (let e : a ≡ 0xed = omega arith in inr (inr (inr (inr (inl
              (((m, omega arith), ((t.0, t.3 e), (u, tt))), (omega (arith, t.3 e), omega (arith, t.3 e)), refl))))))
          | inr n ↦ inr (inr
              (inr (inr (inr (inl (((n, omega arith), ((t.0, t.1), (u, tt))), (omega arith, omega arith), refl))))))
        ]
      ]
    ]

-- four bytes that fit are in the table
pub row_4 : (a b d f : ℕ) → 0xf0 ≤ a → a ≤ 0xf4 → IsSecond a b → IsTail d → IsTail f
    → IsOfOne table (a ∷ b ∷ d ∷ f ∷ []) (carried (a ∷ b ∷ d ∷ f ∷ []))
row_4 a b d f h k t u v =
    elim (cases_lt a 0xf1) [
      | inl l ↦ (let e : a ≡ 0xf0 = omega arith in inr (inr (inr (inr (inr (inr (inl
          (((h, omega arith), ((t.4 e, t.1), (u, (v, tt)))), (omega (arith, t.4 e), omega (arith, t.4 e)), refl))))))))
      | inr l ↦ elim (cases_lt a 0xf4) [
        | inl m ↦ inr (inr (inr (inr (inr
            (inr (inr (inl (((l, omega arith), ((t.0, t.1), (u, (v, tt)))), (omega arith, omega arith), refl))))))))
        | inr m ↦ (let e : a ≡ 0xf4 = omega arith in inr (inr (inr (inr (inr (inr (inr (inr (inl (
          ((m, omega arith), ((t.0, t.5 e), (u, (v, tt)))),
          (omega (arith, t.5 e), omega (arith, t.5 e)),
          refl,
        ))))))))))
      ]
    ]

-- a character of one byte
pub char_1 : (s : ReadState) (x : List ℕ) (c : ℕ) → c ≡ get_or x 0 0 → 0 < length x → get_or x 0 0 < 0x80
    → Stands utf8_reads s x (taken 1 (Some c) read.Start)
char_1 s [] c e n h = absurd (omega arith)
char_1 s (a ∷ x) c e n h = record {
  bytes = a ∷ [];
  is_item = (c, inl (((omega arith, omega arith), tt), (omega arith, omega arith), e), refl);
  front = (refl, tt);
}

-- a character of two bytes
pub char_2 : (s : ReadState) (x : List ℕ) (c : ℕ) → c ≡ carried (get_or x 0 0 ∷ get_or x 1 0 ∷ []) → 2 ≤ length x → 0xc2
    ≤ get_or x 0 0 → get_or x 0 0 < 0xe0 → IsTail (get_or x 1 0) → Stands utf8_reads s x (taken 2 (Some c) read.Start)
char_2 s [] c e n h k t = absurd (omega arith)
char_2 s (a ∷ []) c e n h k t = absurd (omega arith)
char_2 s (a ∷ b ∷ x) c e n h k t =
    record { bytes = a ∷ b ∷ []; is_item = (c, rw e (row_2 a b h k t), refl); front = (refl, (refl, tt)) }

-- a character of three bytes
pub char_3 : (s : ReadState) (x : List ℕ) (c : ℕ) → c ≡ carried (get_or x 0 0 ∷ get_or x 1 0 ∷ get_or x 2 0 ∷ [])
    → 3 ≤ length x → 0xe0 ≤ get_or x 0 0 → get_or x 0 0 < 0xf0 → IsSecond (get_or x 0 0) (get_or x 1 0)
    → IsTail (get_or x 2 0) → Stands utf8_reads s x (taken 3 (Some c) read.Start)
char_3 s [] c e n h k t u = absurd (omega arith)
char_3 s (a ∷ []) c e n h k t u = absurd (omega arith)
char_3 s (a ∷ b ∷ []) c e n h k t u = absurd (omega arith)
char_3 s (a ∷ b ∷ d ∷ x) c e n h k t u = record {
  bytes = a ∷ b ∷ d ∷ [];
  is_item = (c, rw e (row_3 a b d h k t u), refl);
  front = (refl, (refl, (refl, tt)));
}

-- a character of four bytes
pub char_4 : (s : ReadState) (x : List ℕ) (c : ℕ) → c ≡ carried (get_or x 0 0 ∷ get_or x 1 0 ∷ get_or x 2 0 ∷ get_or
    x 3 0 ∷ []) → 4 ≤ length x → 0xf0 ≤ get_or x 0 0 → get_or x 0 0 ≤ 0xf4 → IsSecond (get_or x 0 0) (get_or x 1 0)
    → IsTail (get_or x 2 0) → IsTail (get_or x 3 0) → Stands utf8_reads s x (taken 4 (Some c) read.Start)
char_4 s [] c e n h k t u v = absurd (omega arith)
char_4 s (a ∷ []) c e n h k t u v = absurd (omega arith)
char_4 s (a ∷ b ∷ []) c e n h k t u v = absurd (omega arith)
char_4 s (a ∷ b ∷ d ∷ []) c e n h k t u v = absurd (omega arith)
char_4 s (a ∷ b ∷ d ∷ f ∷ x) c e n h k t u v = record {
  bytes = a ∷ b ∷ d ∷ f ∷ [];
  is_item = (c, rw e (row_4 a b d f h k t u v), refl);
  front = (refl, (refl, (refl, (refl, tt))));
}

-- a first byte has a second that fits
some_second : (a : ℕ) → (b : ℕ) × IsSecond a b
some_second a =
    elim (cases_lt a 0xf4) [
      | inl l ↦ elim (cases_lt a 0xe1) [
        | inl k ↦ (
          0xa0,
          (
            omega arith,
            omega arith,
            λ e. omega arith,
            λ e. absurd (omega arith),
            λ e. omega arith,
            λ e. absurd (omega arith),
          ),
        )
        | inr k ↦ (
          0x90,
          (
            omega arith,
            omega arith,
            λ e. absurd (omega arith),
            λ e. omega arith,
            λ e. omega arith,
            λ e. absurd (omega arith),
          ),
        )
      ]
      | inr l ↦ (
        0x80,
        (
          omega arith,
          omega arith,
          λ e. absurd (omega arith),
          λ e. omega arith,
          λ e. absurd (omega arith),
          λ e. omega arith,
        ),
      )
    ]

a_tail : IsTail 0x80
a_tail = (omega arith, omega arith)

-- a first byte alone
pub incomplete_1 : (s : ReadState) (x : List ℕ) → length x ≡ 1 → 0xc2 ≤ get_or x 0 0 → get_or x 0 0 ≤ 0xf4
    → IsNext utf8_reads s x Incomplete
incomplete_1 s [] e h k = absurd (omega arith)
incomplete_1 s (a ∷ b ∷ x) e h k = absurd (omega arith)
incomplete_1 s (a ∷ []) e h k =
    let longer : (w : List ℕ) (c : ℕ) → IsSequence w c → Agree w (a ∷ []) → 1 < length w = (λ w c q g.
    let f : get_or w 0 0 ≡ a = g 0 q.some (omega arith) in
    elim (cases_lt
    (get_or w 0 0) 0xe0) [ inl l ↦ omega (arith, (q.two (omega arith) l).0) | inr l ↦ omega (arith, long w c q l) ]) in
    elim (cases_lt a 0xe0) [
      | inl l ↦ incomplete_from s (a ∷ []) (omega arith) longer (a ∷ 0x80 ∷ []) (carried (a ∷ 0x80 ∷ []))
          (row_2 a 0x80 h l a_tail) (refl, tt)
      | inr l ↦ elim (cases_lt a 0xf0) [
        | inl m ↦ (let b = some_second a in incomplete_from s (a ∷ []) (omega arith) longer (a ∷ b.0 ∷ 0x80 ∷ [])
            (carried (a ∷ b.0 ∷ 0x80 ∷ [])) (row_3 a b.0 0x80 l m b.1 a_tail) (refl, tt))
        | inr m ↦ (let b = some_second a in incomplete_from s (a ∷ []) (omega arith) longer (a ∷ b.0 ∷ 0x80 ∷ 0x80 ∷ [])
            (carried (a ∷ b.0 ∷ 0x80 ∷ 0x80 ∷ [])) (row_4 a b.0 0x80 0x80 m k b.1 a_tail a_tail) (refl, tt))
      ]
    ]

-- the first two bytes of three or four
pub incomplete_2 : (s : ReadState) (x : List ℕ) → length x ≡ 2 → 0xe0 ≤ get_or x 0 0 → get_or x 0 0 ≤ 0xf4
    → IsSecond (get_or x 0 0) (get_or x 1 0) → IsNext utf8_reads s x Incomplete
incomplete_2 s [] e h k t = absurd (omega arith)
incomplete_2 s (a ∷ []) e h k t = absurd (omega arith)
incomplete_2 s (a ∷ b ∷ d ∷ x) e h k t = absurd (omega arith)
incomplete_2 s (a ∷ b ∷ []) e h k t =
    let longer : (w : List ℕ) (c : ℕ) → IsSequence w c → Agree w (a ∷ b ∷ []) → 2 < length w = (λ w c q g.
    let f : get_or w 0 0 ≡ a = g 0 q.some (omega arith) in
    omega (arith, long w c q (omega arith))) in
    elim (cases_lt a 0xf0) [
      | inl m ↦ incomplete_from s (a ∷ b ∷ []) (omega arith) longer (a ∷ b ∷ 0x80 ∷ []) (carried (a ∷ b ∷ 0x80 ∷ []))
          (row_3 a b 0x80 h m t a_tail) (refl, (refl, tt))
      | inr m ↦ incomplete_from s (a ∷ b ∷ []) (omega arith) longer (a ∷ b ∷ 0x80 ∷ 0x80 ∷ [])
          (carried (a ∷ b ∷ 0x80 ∷ 0x80 ∷ [])) (row_4 a b 0x80 0x80 m k t a_tail a_tail) (refl, (refl, tt))
    ]

-- the first three bytes of four
pub incomplete_3 : (s : ReadState) (x : List ℕ) → length x ≡ 3 → 0xf0 ≤ get_or x 0 0 → get_or x 0 0 ≤ 0xf4
    → IsSecond (get_or x 0 0) (get_or x 1 0) → IsTail (get_or x 2 0) → IsNext utf8_reads s x Incomplete
incomplete_3 s [] e h k t u = absurd (omega arith)
incomplete_3 s (a ∷ []) e h k t u = absurd (omega arith)
incomplete_3 s (a ∷ b ∷ []) e h k t u = absurd (omega arith)
incomplete_3 s (a ∷ b ∷ d ∷ f ∷ x) e h k t u = absurd (omega arith)
incomplete_3 s (a ∷ b ∷ d ∷ []) e h k t u =
    let longer : (w : List ℕ) (c : ℕ) → IsSequence w c → Agree w (a ∷ b ∷ d ∷ []) → 3 < length w = (λ w c q g.
    let f : get_or w 0 0 ≡ a = g 0 q.some (omega arith) in
    omega (arith, (q.four (omega arith)).0)) in
    incomplete_from s (a ∷ b ∷ d ∷ []) (omega arith) longer (a ∷ b ∷ d ∷ 0x80 ∷ []) (carried (a ∷ b ∷ d ∷ 0x80 ∷ []))
    (row_4 a b d 0x80 h k t u a_tail) (refl, (refl, (refl, tt)))

-- three bytes that fit carry a scalar
pub scalar_3 : (a b d : ℕ) → 0xe0 ≤ a → a < 0xf0 → IsSecond a b → IsTail d
    → IsScalar ((a % 16) * 4096 + (b % 64) * 64 + d % 64)
scalar_3 a b d h k t u = (
  omega arith,
  λ x. elim (cases_lt a 0xed) [
    | inl l ↦ absurd (omega arith)
    | inr l ↦ elim (cases_lt a
        0xee) [ inl m ↦ (let e : a ≡ 0xed = omega arith in absurd (omega (arith, t.3 e))) | inr m ↦ omega arith ]
  ],
)

-- four bytes that fit carry a scalar
pub scalar_4 : (a b d f : ℕ) → 0xf0 ≤ a → a ≤ 0xf4 → IsSecond a b → IsTail d → IsTail f
    → IsScalar ((a % 8) * 262144 + (b % 64) * 4096 + (d % 64) * 64 + f % 64)
scalar_4 a b d f h k t u v = (
  elim (cases_lt a 0xf4) [ inl l ↦ omega arith | inr l ↦ (let e : a ≡ 0xf4 = omega arith in omega (arith, t.5 e)) ],
  λ x.
      elim (cases_lt a 0xf1) [ inl l ↦ (let e : a ≡ 0xf0 = omega arith in omega (arith, t.4 e)) | inr l ↦ omega arith ],
)

-- a character is written as four bytes at most
pub writes_four : WritesAtMost 4 utf8_writes
writes_four t c = elim (nat_lt c 0x80) as (λ (a : Bool). length (cond a (c ∷ []) (cond (nat_lt c 0x800) ((0xc0 + c / 64)
    ∷ (0x80 + c % 64) ∷ []) (cond (nat_lt c 0x10000) ((0xe0 + c / 4096) ∷ (0x80 + c / 64 % 64) ∷ (0x80 + c % 64) ∷ [])
    ((0xf0 + c / 262144) ∷ (0x80 + c / 4096 % 64) ∷ (0x80 + c / 64 % 64) ∷ (0x80 + c % 64) ∷ [])))) ≤ 4) [
      | true ↦ omega arith
      | false ↦ elim (nat_lt c 0x800) as (λ (a : Bool). length (cond a ((0xc0 + c / 64) ∷ (0x80 + c % 64) ∷ [])
          (cond (nat_lt c 0x10000) ((0xe0 + c / 4096) ∷ (0x80 + c / 64 % 64) ∷ (0x80 + c % 64) ∷ [])
          ((0xf0 + c / 262144) ∷ (0x80 + c / 4096 % 64) ∷ (0x80 + c / 64 % 64) ∷ (0x80 + c % 64) ∷ []))) ≤ 4) [
            | true ↦ omega arith
            | false ↦ elim (nat_lt c 0x10000) as (λ (a : Bool). length (cond a ((0xe0 + c / 4096) ∷ (0x80 + c / 64 % 64)
                ∷ (0x80 + c % 64) ∷ []) ((0xf0 + c / 262144) ∷ (0x80 + c / 4096 % 64)
                ∷ (0x80 + c / 64 % 64) ∷ (0x80 + c % 64) ∷ [])) ≤ 4) [ true ↦ omega arith | false ↦ omega arith ]
          ]
    ]

-- ASCII characters are read as the bytes of their numbers
pub reads_bytes : ReadsAscii utf8_reads read.Start Byte
reads_bytes c h = (c, inl (((omega arith, omega arith), tt), (omega arith, omega arith), refl), refl)

-- each return of `item`
pub ruleset steps = (
  char_1,
  char_2,
  char_3,
  char_4,
  incomplete_1,
  incomplete_2,
  incomplete_3,
  ill_low,
  ill_high,
  ill_of_two,
  ill_second,
  ill_third,
  ill_fourth,
  scalar_3,
  scalar_4,
)
