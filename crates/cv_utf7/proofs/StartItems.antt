-- What is next outside a shifted sequence.
use Rattle.std.proofs.Common.{◌≡◌, ℕ, ◌⊎◌, ◌<◌, ◌≤◌, true, false, List, [], ◌∷◌, length, get_or, refl, sym, ◌∙◌, ap}
use Rattle.std.proofs.Common.{arith, inl, inr, Some, None}
use Rattle.std.proofs.lemmas.Bool.{true≢false}
use Rattle.cv_base.specs.Items.{Taken, taken, Begins, Stands, IsNext}
use Rattle.cv_base.specs.declared.item.Item.{Item}
use Rattle.cv_base.specs.declared.item.Item.TheVariants as item
use Rattle.cv_base.specs.declared.state.Bits.{Bits}
use Rattle.cv_base.specs.declared.state.ReadState.{ReadState}
use Rattle.cv_base.specs.declared.state.ReadState.TheVariants as read
use Rattle.cv_utf7.specs.Sets.{is_digit, may_be_direct}
use Rattle.cv_utf7.specs.Utf7.{plus, minus, ReadsAtStart, utf7_reads}
use Rattle.cv_utf7.proofs.SetMembers.{direct_lt, plus_is_not_direct}
use Rattle.cv_utf7.proofs.PendingBits.{none_pending}

-- what an item needs of the first two bytes
fits : (w x : List ℕ) (i : Taken)
    → ReadsAtStart w i → (Begins w x ⊎ Begins x w) → 0 < length x → (may_be_direct (get_or x 0 0) ≡ true)
    ⊎ ((get_or x 0 0 ≡ plus) × (2 ≤ length x → (get_or x 1 0 ≡ minus) ⊎ (is_digit (get_or x 1 0) ≡ true)))
fits [] x i r f n = absurd r
fits (a ∷ b ∷ c ∷ w) x i r f n = absurd r
fits (a ∷ []) [] i r f n = absurd (omega arith)
fits (a ∷ b ∷ []) [] i r f n = absurd (omega arith)
fits (a ∷ []) (x ∷ xs) i r f n =
    inl (elim f [ inl g ↦ sym (ap may_be_direct g.0) ∙ r.0 | inr g ↦ ap may_be_direct g.0 ∙ r.0 ])
fits (a ∷ b ∷ []) (x ∷ []) i r f n =
    inr (elim f [ inl g ↦ absurd g.1 | inr g ↦ g.0 ∙ elim r [ inl s ↦ s.0 | inr s ↦ s.0 ] ], λ l. absurd (omega arith))
fits (a ∷ b ∷ []) (x ∷ y ∷ xs) i r f n =
    let e : (a ≡ x) × (b ≡ y) = elim f [ inl g ↦ (g.0, g.1.0) | inr g ↦ (sym g.0, sym g.1.0) ] in
    inr (
      sym e.0 ∙ elim r [ inl s ↦ s.0 | inr s ↦ s.0 ],
      λ l. elim r [ inl s ↦ inl (sym e.1 ∙ s.1) | inr s ↦ inr (sym (ap is_digit e.1) ∙ s.1) ],
    )

ill_from : (x : List ℕ) → 0 < length x → ((w : List ℕ) (i : Taken) → ReadsAtStart w i → (Begins w x ⊎ Begins x w) → ⊥)
    → IsNext utf7_reads read.Start x item.Ill
ill_from x n never =
    (n, λ i p. never p.bytes i p.is_item (inl p.front), λ p. never p.bytes p.item p.is_item (inr p.front))

-- a direct byte is read as its character
pub start_direct : (x : List ℕ) (c : ℕ) → c ≡ get_or x 0 0 → 0 < length x → may_be_direct (get_or x 0 0) ≡ true
    → Stands utf7_reads read.Start x (taken 1 (Some c) read.Start)
start_direct [] c e n d = absurd (omega arith)
start_direct (a ∷ x) c e n d =
    record { bytes = a ∷ []; is_item = (d, ap (λ (b : ℕ). taken 1 (Some b) read.Start) e); front = (refl, tt) }

-- a byte that is neither direct nor `+` is ill-formed
pub start_ill : (x : List ℕ) → 0 < length x → may_be_direct (get_or x 0 0) ≡ false → (get_or x 0 0 ≡ plus → ⊥)
    → IsNext utf7_reads read.Start x item.Ill
start_ill x n d e = ill_from x n (λ w i r f. elim (fits w x i r f n) [ inl g ↦ true≢false (sym g ∙ d) | inr g ↦ e g.0 ])

none_short : (a : ℕ) → a ≡ plus → (w : List ℕ) (i : Taken) → ReadsAtStart w i → Begins w (a ∷ []) → ⊥
none_short a e [] i r f = r
none_short a e (b ∷ []) i r f = true≢false (sym r.0 ∙ ap may_be_direct (f.0 ∙ e) ∙ plus_is_not_direct)
none_short a e (b ∷ c ∷ w) i r f = f.1

-- `+` alone is incomplete
pub start_short : (x : List ℕ) → 0 < length x → length x < 2 → get_or x 0 0 ≡ plus
    → IsNext utf7_reads read.Start x item.Incomplete
start_short [] n l e = absurd (omega arith)
start_short (a ∷ b ∷ x) n l e = absurd (omega arith)
start_short (a ∷ []) n l e = (
  n,
  λ i p. none_short a e p.bytes i p.is_item p.front,
  record {
    bytes = plus ∷ minus ∷ [];
    item = taken 2 (Some plus) read.Start;
    is_item = inl (refl, refl, refl);
    front = (e, tt);
  },
)

-- `+-` is read as `+`
pub start_plus : (x : List ℕ) (c : ℕ) → c ≡ plus → 2 ≤ length x → get_or x 0 0 ≡ plus → get_or x 1 0 ≡ minus
    → Stands utf7_reads read.Start x (taken 2 (Some c) read.Start)
start_plus [] c q n e f = absurd (omega arith)
start_plus (a ∷ []) c q n e f = absurd (omega arith)
start_plus (a ∷ b ∷ x) c q n e f = record {
  bytes = a ∷ b ∷ [];
  is_item = inl (e, f, ap (λ (b : ℕ). taken 2 (Some b) read.Start) q);
  front = (refl, (refl, tt));
}

-- `+` before a digit begins a sequence
pub start_shift : (x : List ℕ) (next : Bits) → next.count ≡ 0 → 2 ≤ length x → get_or x 0 0 ≡ plus
    → is_digit (get_or x 1 0) ≡ true → Stands utf7_reads read.Start x (taken 1 None (read.Shifted next))
start_shift [] next q n e f = absurd (omega arith)
start_shift (a ∷ []) next q n e f = absurd (omega arith)
start_shift (a ∷ b ∷ x) next q n e f = record {
  bytes = a ∷ b ∷ [];
  is_item = inr (e, f, ap (λ (p : Bits). taken 1 None (read.Shifted p)) (none_pending next q));
  front = (refl, (refl, tt));
}

-- `+` before any other byte is ill-formed
pub start_other : (x : List ℕ) → 2 ≤ length x → get_or x 0 0 ≡ plus → (get_or x 1 0 ≡ minus → ⊥)
    → is_digit (get_or x 1 0) ≡ false → IsNext utf7_reads read.Start x item.Ill
start_other x n e f g = ill_from x (omega arith) (λ w i r h. elim (fits w x i r h (omega arith)) [
  | inl k ↦ true≢false (sym k ∙ ap may_be_direct e ∙ plus_is_not_direct)
  | inr k ↦ elim (k.1 n) [ inl m ↦ f m | inr m ↦ true≢false (sym m ∙ g) ]
])

-- what is next is the same in a state with the same items
same_next : (s t : ReadState) → ((w : List ℕ) (i : Taken) → utf7_reads s w i → utf7_reads t w i)
    → ((w : List ℕ) (i : Taken) → utf7_reads t w i → utf7_reads s w i) → (x : List ℕ) (r : Item)
    → IsNext utf7_reads s x r → IsNext utf7_reads t x r
same_next s t to back x (item.Char c n next) h =
    record { bytes = h.bytes; is_item = to h.bytes _ h.is_item; front = h.front }
same_next s t to back x (item.Shift n next) h =
    record { bytes = h.bytes; is_item = to h.bytes _ h.is_item; front = h.front }
same_next s t to back x item.Incomplete h = (
  h.0,
  λ i p. h.1 i (record { bytes = p.bytes; is_item = back p.bytes i p.is_item; front = p.front }),
  record { bytes = h.2.bytes; item = h.2.item; is_item = to h.2.bytes h.2.item h.2.is_item; front = h.2.front },
)
same_next s t to back x item.Ill h = (
  h.0,
  λ i p. h.1 i (record { bytes = p.bytes; is_item = back p.bytes i p.is_item; front = p.front }),
  λ p. h.2 (record { bytes = p.bytes; item = p.item; is_item = back p.bytes p.item p.is_item; front = p.front }),
)
same_next s t to back x item.End h = h

-- a state that UTF-7 does not use reads as the start does
pub next_big : (x : List ℕ) (r : Item) → IsNext utf7_reads read.Start x r → IsNext utf7_reads read.Big x r
next_big = same_next read.Start read.Big (λ w i p. p) (λ w i p. p)

-- the same for the other such state
pub next_little : (x : List ℕ) (r : Item) → IsNext utf7_reads read.Start x r → IsNext utf7_reads read.Little x r
next_little = same_next read.Start read.Little (λ w i p. p) (λ w i p. p)

pub ruleset starts = (start_direct, start_ill, start_short, start_plus, start_shift, start_other, direct_lt)

pub ruleset states = (next_big, next_little)
