-- What is next at the start of a text that may have a mark.
use Rattle.std.proofs.Common.{◌≡◌, ℕ, ◌⊎◌, ◌<◌, inl, inr, Bool, true, false, List, length, take, drop, refl, sym, ap}
use Rattle.std.proofs.Common.{subst, arith, Some, None}
use Rattle.std.specs.Cmp.Lexicographic.{pointwise}
use Rattle.std.specs.Prelude.{IsTrue, ◌↔◌, nat_eq}
use Rattle.std.specs.Str.{bytes_eq}
use Rattle.std.proofs.lemmas.Bool.Decides.{Decides-eqb, not_from_Decides}
use Rattle.std.proofs.lemmas.Slice.Eq.{bytes_eq-Decides, starts_is}
use Rattle.std.specs.Bool.{Decides}
use Rattle.cv_base.specs.Scalars.{IsScalar}
use Rattle.cv_base.specs.Items.{Taken, taken, Begins, Stands, CanGrow, IsNext}
use Rattle.cv_base.specs.declared.endian.Endian.TheVariants.{Big, Little}
use Rattle.cv_base.specs.declared.state.ReadState.{ReadState}
use Rattle.cv_base.specs.declared.state.ReadState.TheVariants as read
use Rattle.cv_base.specs.declared.item.Item.{Item}
use Rattle.cv_base.specs.declared.item.Item.TheVariants.{Char, Shift, Incomplete, Ill, End}
use Rattle.cv_utf16.specs.Orders.{OrderedForm, gives, reads_first, mark}
use Rattle.cv_base.proofs.Front.{Begins-append, Begins-refl, Begins-trans, Begins-split}
use Rattle.cv_utf16.specs.Private.Forms.{IsForm}
use Rattle.cv_utf16.specs.Private.AnyState.{always_gives, always_first}

decided : (P : Type 0) (r : Bool) → Decides r P → P ⊎ (P → ⊥)
decided P true h = inl (h.0 refl)
decided P false h = inr (not_from_Decides false h refl)

is_or_not : (a b : List ℕ) → (a ≡ b) ⊎ (a ≡ b → ⊥)
is_or_not a b = decided (a ≡ b) (bytes_eq a b) (bytes_eq-Decides a b)

-- the bytes of a big-endian character are an item at the start, also those of a mark
some_item : (form : OrderedForm) (w : List ℕ) (i : Taken) → gives (form Big) read.Big w i
    → (j : Taken) × reads_first form w j
some_item form w i h = elim (is_or_not w (form Big mark)) [
  | inl e ↦ (taken (length w) None read.Big, inl (e, refl))
  | inr n ↦ elim (is_or_not w (form Little mark)) [
    | inl e ↦ (taken (length w) None read.Little, inr (inl (e, refl)))
    | inr m ↦ (i, inr (inr (n, m, h)))
  ]
]

-- if no mark is next, an item is next exactly if a big-endian character is
no_item : (form : OrderedForm) (s t : ReadState) (x : List ℕ) → (Begins (form Big mark) x → ⊥)
    → (Begins (form Little mark) x → ⊥) → ((i : Taken) → Stands (always_gives (form Big) read.Big) s x i → ⊥)
    → (i : Taken) → Stands (always_first form) t x i → ⊥
no_item form s t x big little none i p = elim p.is_item [
  | inl h ↦ big (rw (← h.0) p.front)
  | inr h ↦ elim h [
    | inl h ↦ little (rw (← h.0) p.front)
    | inr h ↦ none i (record { bytes = p.bytes; is_item = h.2; front = p.front })
  ]
]

cannot : (form : OrderedForm) (s t : ReadState) (x : List ℕ) → (Begins x (form Big mark) → CanGrow
    (always_gives (form Big) read.Big) s x) → (Begins x (form Little mark) → CanGrow (always_gives (form Big) read.Big)
    s x) → (CanGrow (always_gives (form Big) read.Big) s x → ⊥) → CanGrow (always_first form) t x → ⊥
cannot form s t x big little never p = elim p.is_item [
  | inl h ↦ never (big (rw (← h.0) p.front))
  | inr h ↦ elim h [
    | inl h ↦ never (little (rw (← h.0) p.front))
    | inr h ↦ never (record { bytes = p.bytes; item = p.item; is_item = h.2; front = p.front })
  ]
]

a_char : (form : OrderedForm) (s t : ReadState) (x : List ℕ) → (Begins (form Big mark) x → ⊥)
    → (Begins (form Little mark) x → ⊥) → (i : Taken) → Stands (always_gives (form Big) read.Big) s x i
    → Stands (always_first form) t x i
a_char form s t x big little i h = record {
  bytes = h.bytes;
  is_item = inr (inr (λ e. big (rw (← e) h.front), λ e. little (rw (← e) h.front), h.is_item));
  front = h.front;
}

none_some : (c : ℕ) → None ≡ Some c → ⊥
none_some c e = absurd (cc e)

-- If no mark is next, and each prefix of a mark is a prefix of a big-endian character, what is next is the same.
first_from : (form : OrderedForm) (s t : ReadState) (x : List ℕ) → (Begins (form Big mark) x → ⊥)
    → (Begins (form Little mark) x → ⊥) → (Begins x (form Big mark) → CanGrow (always_gives (form Big) read.Big) s x)
    → (Begins x (form Little mark) → CanGrow (always_gives (form Big) read.Big) s x) → (i : Item)
    → IsNext (always_gives (form Big) read.Big) s x i → IsNext (always_first form) t x i
first_from form s t x big little grow grow_little (Char c n next) h =
    a_char form s t x big little (taken n (Some c) next) h
first_from form s t x big little grow grow_little (Shift n next) h =
    absurd (none_some h.is_item.0 (ap (λ (i : Taken). i.gives) h.is_item.3))
first_from form s t x big little grow grow_little Incomplete h =
    let j = some_item form h.2.bytes h.2.item h.2.is_item in
    (h.0, no_item form s t x big little h.1, record { bytes = h.2.bytes; item = j.0; is_item = j.1; front = h.2.front })
first_from form s t x big little grow grow_little Ill h =
    (h.0, no_item form s t x big little h.1, cannot form s t x grow grow_little h.2)
first_from form s t x big little grow grow_little End h = h

-- a prefix of the bytes of a scalar can grow
grows : (form : OrderedForm) (s : ReadState) (x : List ℕ) (c : ℕ) → IsScalar c → Begins x (form Big c)
    → CanGrow (always_gives (form Big) read.Big) s x
grows form s x c scalar front = record {
  bytes = form Big c;
  item = taken (length (form Big c)) (Some c) read.Big;
  is_item = (c, scalar, refl, refl);
  front = front;
}

-- the big-endian mark is next
pub big_mark_stands : (form : OrderedForm) (s : ReadState) (x : List ℕ) (n : ℕ) → Begins (form Big mark) x
    → length (form Big mark) ≡ n → Stands (always_first form) s x (taken n None read.Big)
big_mark_stands form s x n front e =
    record { bytes = form Big mark; is_item = inl (refl, ap (λ m. taken m None read.Big) (sym e)); front = front }

-- the little-endian mark is next
pub little_mark_stands : (form : OrderedForm) (s : ReadState) (x : List ℕ) (n : ℕ) → Begins (form Little mark) x
    → length (form Little mark) ≡ n → Stands (always_first form) s x (taken n None read.Little)
little_mark_stands form s x n front e = record {
  bytes = form Little mark;
  is_item = inr (inl (refl, ap (λ m. taken m None read.Little) (sym e)));
  front = front;
}

-- the test whether a list begins another is true exactly if it does
pub begins_test : (a b : List ℕ) (r : Bool) → r ≡ pointwise nat_eq a (take (length a) b) → IsTrue r ↔ Begins a b
begins_test a b r e =
    let both = starts_is Decides-eqb b a r e in (
      λ h. subst (λ w. Begins a w) (sym (both.0 h)) (Begins-append a (drop (length a) b)),
      λ h. both.1 (drop (length a) b) (Begins-split a b h),
    )

-- a prefix of the little-endian mark that is not all of it is incomplete
pub part_of_little_mark : (form : OrderedForm) → IsForm form → (s : ReadState) (x : List ℕ)
    → 0 < length x → (Begins (form Big mark) x → ⊥) → (Begins (form Little mark) x → ⊥) → Begins x (form Little mark)
    → IsNext (always_first form) s x Incomplete
part_of_little_mark form u s x some big little front = (
  some,
  λ i p. elim p.is_item [
    | inl h ↦ big (rw (← h.0) p.front)
    | inr h ↦ elim h [
      | inl h ↦ little (rw (← h.0) p.front)
      | inr h ↦ (
          let here : Begins (form Big h.2.0) x = rw (← h.2.2) p.front in
          let same : form Big h.2.0 ≡ form Little mark = u.little_alone (form Little mark) h.2.0 h.2.1
          (Begins-trans (form Big h.2.0) x (form Little mark) here front) (Begins-refl (form Little mark)) in
          little (subst (λ (w : List ℕ). Begins w x) same here))
    ]
  ],
  record {
    bytes = form Little mark;
    item = taken (length (form Little mark)) None read.Little;
    is_item = inr (inl (refl, refl));
    front = front;
  },
)

-- if neither a mark nor a prefix of the little-endian one is next, what is next is the same as among big-endian
-- characters
pub no_mark : (form : OrderedForm) (s t : ReadState) (x : List ℕ) (i : Item)
    → (Begins (form Big mark) x → ⊥) → (Begins (form Little mark) x → ⊥) → (Begins x (form Little mark) → ⊥)
    → IsNext (always_gives (form Big) read.Big) s x i → IsNext (always_first form) t x i
no_mark form s t x i big little front =
    first_from form s t x big little (grows form s x mark (omega arith, λ h. omega arith)) (λ f. absurd (front f)) i

-- each return of reading the first item
pub ruleset steps = (big_mark_stands, little_mark_stands, part_of_little_mark, no_mark)
