-- An encoding form in each order keeps what a codec keeps.
use Rattle.std.proofs.Common.{◌≡◌, ℕ, ◌<◌, ◌≤◌, inl, inr, List, length, refl, sym, ◌∙◌, ap, arith, Some, None}
use Rattle.cv_base.specs.Scalars.{IsScalar}
use Rattle.cv_base.specs.Items.{Taken, taken, Begins}
use Rattle.cv_base.specs.Codecs.{IsReadable, CanSubstitute}
use Rattle.cv_base.specs.declared.endian.Endian.TheVariants.{Big, Little}
use Rattle.cv_base.specs.declared.state.ReadState.{ReadState}
use Rattle.cv_base.specs.declared.state.ReadState.TheVariants as read
use Rattle.cv_base.specs.declared.state.WriteState.TheVariants as write
use Rattle.cv_utf16.specs.declared.order.Order.{Order}
use Rattle.cv_utf16.specs.declared.order.Order.TheVariants.{Be, Le, Marked}
use Rattle.cv_utf16.specs.Private.Forms.{IsUnique, IsForm}
use Rattle.cv_utf16.specs.Orders.{OrderedForm, gives, reads_first, reads_in, writes_in, mark}

-- at most one item is next, and it uses some bytes: characters, then marks, then each order
one_given : (bytes_of : ℕ → List ℕ) → IsUnique bytes_of → (next : ReadState) (text a b : List ℕ) (i j : Taken)
    → gives bytes_of next a i → gives bytes_of next b j → Begins a text → Begins b text → i ≡ j
one_given bytes_of u next text a b i j p q f g =
    let c_is : p.0 ≡ q.0 = u.one text p.0 q.0 p.1 q.1 (rw (← p.2) f) (rw (← q.2) g) in
    let same : a ≡ b = p.2 ∙ ap bytes_of c_is ∙ sym q.2 in
    p.3 ∙ (let e : taken (length a) (Some p.0) next ≡ taken (length b) (Some q.0) next = cc (same, c_is) in e) ∙ sym q.3

uses_given : (bytes_of : ℕ → List ℕ) → IsUnique bytes_of → (next : ReadState) (a : List ℕ) (i : Taken)
    → gives bytes_of next a i → (0 < i.used) × (i.used ≤ length a)
uses_given bytes_of u next a i p = let e : i.used ≡ length a = ap (λ t. t.used) p.3 in
    let f : length a ≡ length (bytes_of p.0) = ap length p.2 in (omega (arith, u.some p.0), omega arith)

-- no big-endian character but the mark begins a text with it
big_alone : (form : OrderedForm) → IsForm form → (text : List ℕ) (c : ℕ) → IsScalar c → Begins (form Big c) text
    → Begins (form Big mark) text → form Big c ≡ form Big mark
big_alone form u text c s f g = ap (form Big) ((u.unique Big).one text c mark s (omega arith, λ h. omega arith) f g)

same_mark : (a b w : List ℕ) (i j : Taken) (next : ReadState) → a ≡ w → b ≡ w → i ≡ taken (length a) None next
    → j ≡ taken (length b) None next → i ≡ j
same_mark a b w i j next p q e f = e
    ∙ (let g : taken (length a) None next ≡ taken (length b) None next = cc (p, q) in g) ∙ sym f

one_first : (form : OrderedForm) → IsForm form → (text a b : List ℕ) (i j : Taken) → reads_first form a i
    → reads_first form b j → Begins a text → Begins b text → i ≡ j
one_first form u text a b i j p q f g =
    elim p [
      | inl p ↦ elim q [
        | inl q ↦ same_mark a b (form Big mark) i j read.Big p.0 q.0 p.1 q.1
        | inr q ↦ elim q [
          | inl q ↦ absurd (u.marks text (rw (← p.0) f) (rw (← q.0) g))
          | inr q ↦ absurd (q.0 (q.2.2 ∙ big_alone form u text q.2.0 q.2.1 (rw (← q.2.2) g) (rw (← p.0) f)))
        ]
      ]
      | inr p ↦ elim p [
        | inl p ↦ elim q [
          | inl q ↦ absurd (u.marks text (rw (← q.0) g) (rw (← p.0) f))
          | inr q ↦ elim q [
            | inl q ↦ same_mark a b (form Little mark) i j read.Little p.0 q.0 p.1 q.1
            | inr q ↦ absurd (q.1 (q.2.2 ∙ u.little_alone text q.2.0 q.2.1 (rw (← q.2.2) g) (rw (← p.0) f)))
          ]
        ]
        | inr p ↦ elim q [
          | inl q ↦ absurd (p.0 (p.2.2 ∙ big_alone form u text p.2.0 p.2.1 (rw (← p.2.2) f) (rw (← q.0) g)))
          | inr q ↦ elim q [
            | inl q ↦ absurd (p.1 (p.2.2 ∙ u.little_alone text p.2.0 p.2.1 (rw (← p.2.2) f) (rw (← q.0) g)))
            | inr q ↦ one_given (form Big) (u.unique Big) read.Big text a b i j p.2 q.2 f g
          ]
        ]
      ]
    ]

uses_mark : (a w : List ℕ) (i : Taken) (next : ReadState) → 0 < length w → a ≡ w → i ≡ taken (length a) None next
    → (0 < i.used) × (i.used ≤ length a)
uses_mark a w i next h p e = let f : i.used ≡ length a = ap (λ t. t.used) e in
    let g : length a ≡ length w = ap length p in (omega arith, omega arith)

uses_first : (form : OrderedForm) → IsForm form → (a : List ℕ) (i : Taken) → reads_first form a i
    → (0 < i.used) × (i.used ≤ length a)
uses_first form u a i p = elim p [
  | inl p ↦ uses_mark a (form Big mark) i read.Big ((u.unique Big).some mark) p.0 p.1
  | inr p ↦ elim p [
    | inl p ↦ uses_mark a (form Little mark) i read.Little ((u.unique Little).some mark) p.0 p.1
    | inr p ↦ uses_given (form Big) (u.unique Big) read.Big a i p.2
  ]
]

one_in : (form : OrderedForm) → IsForm form → (order : Order) (s : ReadState) (text a b : List ℕ) (i j : Taken)
    → reads_in form order s a i → reads_in form order s b j → Begins a text → Begins b text → i ≡ j
one_in form u Be s = one_given (form Big) (u.unique Big) read.Start
one_in form u Le s = one_given (form Little) (u.unique Little) read.Start
one_in form u Marked read.Start = one_first form u
one_in form u Marked read.Big = one_given (form Big) (u.unique Big) read.Big
one_in form u Marked read.Little = one_given (form Little) (u.unique Little) read.Little
one_in form u Marked (read.Shifted bits) = one_first form u

uses_in : (form : OrderedForm) → IsForm form → (order : Order) (s : ReadState) (a : List ℕ) (i : Taken)
    → reads_in form order s a i → (0 < i.used) × (i.used ≤ length a)
uses_in form u Be s = uses_given (form Big) (u.unique Big) read.Start
uses_in form u Le s = uses_given (form Little) (u.unique Little) read.Start
uses_in form u Marked read.Start = uses_first form u
uses_in form u Marked read.Big = uses_given (form Big) (u.unique Big) read.Big
uses_in form u Marked read.Little = uses_given (form Little) (u.unique Little) read.Little
uses_in form u Marked (read.Shifted bits) = uses_first form u

-- an encoding form is readable in each order
pub in_readable : (form : OrderedForm) → IsForm form → (order : Order) → IsReadable (reads_in form order)
in_readable form u order = record { one_item = one_in form u order; uses = uses_in form u order }

-- every character can be written, the substitute too
pub in_substitutable : (form : OrderedForm) (order : Order) → CanSubstitute (writes_in form order)
in_substitutable form Be t = refl
in_substitutable form Le t = refl
in_substitutable form Marked write.Start = refl
in_substitutable form Marked write.Marked = refl
in_substitutable form Marked (write.Shifted bits) = refl
