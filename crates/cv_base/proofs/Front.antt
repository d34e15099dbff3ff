-- What is at the start of a text.
use Rattle.std.proofs.Common.{◌≡◌, ℕ, ◌-◌, ◌<◌, ◌≤◌, List, [], ◌∷◌, ◌++◌, length, get_or, take, drop, zero, suc, refl}
use Rattle.std.proofs.Common.{sym, ◌∙◌, ap, arith, inl, inr}
use Rattle.std.proofs.lemmas.Bool.{cases_lt}
use Rattle.std.proofs.lemmas.List.{take_all, length-drop}
use Rattle.cv_base.specs.Items.{Taken, ItemRelation, Begins, Stands, NoneStands, CanGrow}
use Rattle.cv_base.specs.Codecs.{IsReadable, StaysWhenBytesFollow, OneIsNext, UsesSome}
use Rattle.cv_base.specs.declared.state.ReadState.{ReadState}
use Rattle.cv_base.specs.declared.item.Item.TheVariants as item

-- beginning is transitive
pub Begins-trans : (a b c : List ℕ) → Begins a b → Begins b c → Begins a c
Begins-trans [] b c p q = tt
Begins-trans (x ∷ a) [] c p q = absurd p
Begins-trans (x ∷ a) (y ∷ b) [] p q = absurd q
Begins-trans (x ∷ a) (y ∷ b) (z ∷ c) p q = (p.0 ∙ q.0, Begins-trans a b c p.1 q.1)

-- of two lists that begin one text, the shorter begins the longer
pub Begins-meet : (a b c : List ℕ) → Begins a c → Begins b c → length a ≤ length b → Begins a b
Begins-meet [] b c p q l = tt
Begins-meet (x ∷ a) [] c p q l = absurd (omega arith)
Begins-meet (x ∷ a) (y ∷ b) [] p q l = absurd p
Begins-meet (x ∷ a) (y ∷ b) (z ∷ c) p q l = (p.0 ∙ sym q.0, Begins-meet a b c p.1 q.1 (omega arith))

-- two lists of one length that begin one text are the same
pub Begins-same : (a b text : List ℕ) → Begins a text → Begins b text → length a ≡ length b → a ≡ b
Begins-same [] [] text p q e = refl
Begins-same [] (y ∷ b) text p q e = absurd (omega arith)
Begins-same (x ∷ a) [] text p q e = absurd (omega arith)
Begins-same (x ∷ a) (y ∷ b) [] p q e = absurd p
Begins-same (x ∷ a) (y ∷ b) (t ∷ text) p q e = let f : a ≡ b = Begins-same a b text p.1 q.1 (omega arith) in
    cc (p.0, q.0, f)

-- what begins a text is no longer than it
pub Begins-length : (a b : List ℕ) → Begins a b → length a ≤ length b
Begins-length [] b h = omega arith
Begins-length (x ∷ a) [] h = absurd h
Begins-length (x ∷ a) (y ∷ b) h = omega (arith, Begins-length a b h.1)

-- a list that begins another still does so after as many bytes of both are dropped
pub Begins-drop : (n : ℕ) (a b : List ℕ) → Begins a b → Begins (drop n a) (drop n b)
Begins-drop zero a b p = p
Begins-drop (suc n) [] b p = tt
Begins-drop (suc n) (x ∷ a) [] p = absurd p
Begins-drop (suc n) (x ∷ a) (y ∷ b) p = Begins-drop n a b p.1

-- a prefix of a text begins it
pub Begins-take : (n : ℕ) (text : List ℕ) → Begins (take n text) text
Begins-take zero text = tt
Begins-take (suc n) [] = tt
Begins-take (suc n) (t ∷ text) = (refl, Begins-take n text)

-- what begins a text, joined with what begins the rest, begins the text
pub Begins-join : (a b text : List ℕ) → Begins a text → Begins b (drop (length a) text) → Begins (a ++ b) text
Begins-join [] b text p q = q
Begins-join (x ∷ a) b [] p q = absurd p
Begins-join (x ∷ a) b (t ∷ text) p q = (p.0, Begins-join a b text p.1 q)

-- a prefix of what begins a text begins it too
pub Begins-front : (a b text : List ℕ) → Begins (a ++ b) text → Begins a text
Begins-front [] b text p = tt
Begins-front (x ∷ a) b [] p = absurd p
Begins-front (x ∷ a) b (t ∷ text) p = (p.0, Begins-front a b text p.1)

-- what follows that prefix begins the rest of the text
pub Begins-back : (a b text : List ℕ) → Begins (a ++ b) text → Begins b (drop (length a) text)
Begins-back [] b text p = p
Begins-back (x ∷ a) b [] p = absurd p
Begins-back (x ∷ a) b (t ∷ text) p = Begins-back a b text p.1

-- a text is what begins it, and what follows that
pub Begins-split : (a text : List ℕ) → Begins a text → text ≡ a ++ drop (length a) text
Begins-split [] text p = refl
Begins-split (x ∷ a) [] p = absurd p
Begins-split (x ∷ a) (t ∷ text) p = rw (p.0) (ap (λ (y : List ℕ). t ∷ y) (Begins-split a text p.1))

-- a list begins itself
pub Begins-refl : (a : List ℕ) → Begins a a
Begins-refl [] = tt
Begins-refl (x ∷ a) = (refl, Begins-refl a)

-- a list begins itself with more after it
pub Begins-append : (a b : List ℕ) → Begins a (a ++ b)
Begins-append [] b = tt
Begins-append (x ∷ a) b = (refl, Begins-append a b)

-- the slice `&text[used..]` is what follows the first used bytes
pub rest_is : (used : ℕ) (text : List ℕ) → take (length text - used) (drop used text) ≡ drop used text
rest_is used text = take_all (length text - used) (drop used text) (omega (arith, length-drop used text))

-- Two lists agree at each index at which both have a byte.
abbrev pub Agree : List ℕ → List ℕ → Type 0
Agree w x = (k : ℕ) → k < length w → k < length x → get_or w k 0 ≡ get_or x k 0

Agree-cons : (b c : ℕ) (w x : List ℕ) → b ≡ c → Agree w x → Agree (b ∷ w) (c ∷ x)
Agree-cons b c w x e a zero l m = e
Agree-cons b c w x e a (suc k) l m = a k (omega arith) (omega arith)

-- a list that begins another is no longer, and agrees with it
pub Begins-agree : (w x : List ℕ) → Begins w x → (length w ≤ length x) × Agree w x
Begins-agree [] x h = (omega arith, λ k l m. absurd (omega arith))
Begins-agree (b ∷ w) [] h = absurd h
Begins-agree (b ∷ w) (c ∷ x) h = let rest = Begins-agree w x h.1 in
    (omega (arith, rest.0), Agree-cons b c w x h.0 rest.1)

-- an item stays when bytes follow
pub item_stays : (reads : ItemRelation) (s : ReadState) (text more : List ℕ) (i : Taken) → Begins text more
    → Stands reads s text i → Stands reads s more i
item_stays reads s text more i b p =
    record { bytes = p.bytes; is_item = p.is_item; front = Begins-trans p.bytes text more p.front b }

-- what begins no item begins none when bytes follow
pub none_stays : (reads : ItemRelation) (s : ReadState) (text more : List ℕ) → Begins text more
    → NoneStands reads s text → (CanGrow reads s text → ⊥) → NoneStands reads s more
none_stays reads s text more b none grow i p =
    elim (cases_lt (length p.bytes) (length text)) [
      | inl l ↦ none i (record {
        bytes = p.bytes;
        is_item = p.is_item;
        front = Begins-meet p.bytes text more p.front b (omega arith);
      })
      | inr l ↦ grow
          (record { bytes = p.bytes; item = i; is_item = p.is_item; front = Begins-meet text p.bytes more b p.front l })
    ]

-- what is next stays when bytes follow
pub stays : (reads : ItemRelation) → StaysWhenBytesFollow reads
stays reads = record {
  item = item_stays reads;
  ill = λ s text more b p. (
    omega (arith, p.0, Begins-length text more b),
    none_stays reads s text more b p.1 p.2,
    λ g. p.2 (record {
      bytes = g.bytes;
      item = g.item;
      is_item = g.is_item;
      front = Begins-trans text more g.bytes b g.front;
    }),
  );
}

-- at most one item is next
pub same_item : (reads : ItemRelation) → IsReadable reads → (s : ReadState) (text : List ℕ) (i j : Taken)
    → Stands reads s text i → Stands reads s text j → i ≡ j
same_item reads r s text i j p q = r.one_item s text p.bytes q.bytes i j p.is_item q.is_item p.front q.front

-- an item that is next uses some bytes, and not more than there are
pub stands_within : (reads : ItemRelation) → IsReadable reads → UsesSome reads
stands_within reads r s text i p = let u = r.uses s p.bytes i p.is_item in let l = Begins-length p.bytes text p.front in
    (u.0, omega (arith, u.1, l))

-- only one thing is next
pub one_next : (reads : ItemRelation) → IsReadable reads → OneIsNext reads
one_next reads r s text (item.Char c n next) (item.Char d m then) p q = let e = same_item reads r s text _ _ p q in
    cc (ap (λ (t : Taken). t.used) e, ap (λ (t : Taken). t.gives) e, ap (λ (t : Taken). t.next) e)
one_next reads r s text (item.Char c n next) (item.Shift m then) p q = let e = same_item reads r s text _ _ p q in
    cc (ap (λ (t : Taken). t.used) e, ap (λ (t : Taken). t.gives) e, ap (λ (t : Taken). t.next) e)
one_next reads r s text (item.Char c n next) item.Incomplete p q = absurd (q.1 _ p)
one_next reads r s text (item.Char c n next) item.Ill p q = absurd (q.1 _ p)
one_next reads r s text (item.Char c n next) item.End p q =
    absurd (omega (arith, stands_within reads r s text _ p, ap length q))
one_next reads r s text (item.Shift n next) (item.Char d m then) p q = let e = same_item reads r s text _ _ p q in
    cc (ap (λ (t : Taken). t.used) e, ap (λ (t : Taken). t.gives) e, ap (λ (t : Taken). t.next) e)
one_next reads r s text (item.Shift n next) (item.Shift m then) p q = let e = same_item reads r s text _ _ p q in
    cc (ap (λ (t : Taken). t.used) e, ap (λ (t : Taken). t.gives) e, ap (λ (t : Taken). t.next) e)
one_next reads r s text (item.Shift n next) item.Incomplete p q = absurd (q.1 _ p)
one_next reads r s text (item.Shift n next) item.Ill p q = absurd (q.1 _ p)
one_next reads r s text (item.Shift n next) item.End p q =
    absurd (omega (arith, stands_within reads r s text _ p, ap length q))
one_next reads r s text item.Incomplete (item.Char d m then) p q = absurd (p.1 _ q)
one_next reads r s text item.Incomplete (item.Shift m then) p q = absurd (p.1 _ q)
one_next reads r s text item.Incomplete item.Incomplete p q = refl
one_next reads r s text item.Incomplete item.Ill p q = absurd (q.2 p.2)
one_next reads r s text item.Incomplete item.End p q = absurd (omega (arith, p.0, ap length q))
one_next reads r s text item.Ill (item.Char d m then) p q = absurd (p.1 _ q)
one_next reads r s text item.Ill (item.Shift m then) p q = absurd (p.1 _ q)
one_next reads r s text item.Ill item.Incomplete p q = absurd (p.2 q.2)
one_next reads r s text item.Ill item.Ill p q = refl
one_next reads r s text item.Ill item.End p q = absurd (omega (arith, p.0, ap length q))
one_next reads r s text item.End (item.Char d m then) p q =
    absurd (omega (arith, stands_within reads r s text _ q, ap length p))
one_next reads r s text item.End (item.Shift m then) p q =
    absurd (omega (arith, stands_within reads r s text _ q, ap length p))
one_next reads r s text item.End item.Incomplete p q = absurd (omega (arith, q.0, ap length p))
one_next reads r s text item.End item.Ill p q = absurd (omega (arith, q.0, ap length p))
one_next reads r s text item.End item.End p q = refl
