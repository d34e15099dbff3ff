-- What is next in an encoding form in one byte order.
use Rattle.std.proofs.Common.{◌≡◌, ℕ, ◌<◌, ◌≤◌, List, [], ◌∷◌, ◌++◌, length, drop, suc, refl, sym, ◌∙◌, ap, arith, Some}
use Rattle.cv_base.specs.Scalars.{IsScalar}
use Rattle.cv_base.specs.Items.{Taken, taken, ItemRelation, Begins, Stands, IsNext}
use Rattle.cv_base.specs.declared.state.ReadState.{ReadState}
use Rattle.cv_base.specs.declared.item.Item.{Item}
use Rattle.cv_base.specs.declared.item.Item.TheVariants.{Char, Shift, Incomplete, Ill, End}
use Rattle.cv_base.proofs.Front.{Agree, Begins-agree}
use Rattle.cv_utf16.specs.Private.AnyState.{always_gives}

-- a prefix of a list that agrees with a text is a prefix of the text, if that is as long
pub front_agrees : (a w x : List ℕ) → Begins a w → Agree w x → length a ≤ length x → Begins a x
front_agrees [] w x p q l = tt
front_agrees (y ∷ a) [] x p q l = absurd p
front_agrees (y ∷ a) (z ∷ w) [] p q l = absurd (omega arith)
front_agrees (y ∷ a) (z ∷ w) (t ∷ x) p q l = (
  p.0 ∙ q 0 (omega arith) (omega arith),
  front_agrees a w x p.1 (λ k m n. q (suc k) (omega arith) (omega arith)) (omega arith),
)

-- what follows a prefix of a list that agrees with a text agrees with what follows as many bytes of the text
pub back_agrees : (a b x : List ℕ) → Agree (a ++ b) x → Agree b (drop (length a) x)
back_agrees [] b x q = q
back_agrees (y ∷ a) b [] q = λ k m n. absurd (omega arith)
back_agrees (y ∷ a) b (t ∷ x) q = back_agrees a b x (λ k m n. q (suc k) (omega arith) (omega arith))

-- a text that begins with a whole list, and then a part of another
pub whole_and_part : (a b x : List ℕ) → Begins a x → Begins (drop (length a) x) b → Begins x (a ++ b)
whole_and_part [] b x p q = q
whole_and_part (y ∷ a) b [] p q = absurd p
whole_and_part (y ∷ a) b (t ∷ x) p q = (sym p.0, whole_and_part a b x p.1 q)

-- a scalar whose bytes begin the text is next
pub char_from : (bytes_of : ℕ → List ℕ) (next s : ReadState) (x : List ℕ) (n c : ℕ) → IsScalar c → Begins (bytes_of c) x
    → length (bytes_of c) ≡ n → Stands (always_gives bytes_of next) s x (taken n (Some c) next)
char_from bytes_of next s x n c scalar front e =
    record { bytes = bytes_of c; is_item = (c, scalar, refl, ap (λ m. taken m (Some c) next) (sym e)); front = front }

-- a text that the bytes of no scalar agree with is ill-formed
pub ill_from : (bytes_of : ℕ → List ℕ) (next s : ReadState) (x : List ℕ) → 0 < length x
    → ((c : ℕ) → IsScalar c → Agree (bytes_of c) x → ⊥) → IsNext (always_gives bytes_of next) s x Ill
ill_from bytes_of next s x some never = (
  some,
  λ i p. never p.is_item.0 p.is_item.1 (Begins-agree (bytes_of p.is_item.0) x (rw (← p.is_item.2) p.front)).1,
  λ p. never p.is_item.0 p.is_item.1
      (λ k l m. sym ((Begins-agree x (bytes_of p.is_item.0) (rw (← p.is_item.2) p.front)).1 k m l)),
)

-- a text that begins the bytes of a scalar, and is shorter than those of each that agrees with it, is incomplete
pub incomplete_from : (bytes_of : ℕ → List ℕ) (next s : ReadState) (x : List ℕ) → 0 < length x
    → ((c : ℕ) → IsScalar c → Agree (bytes_of c) x → length x < length (bytes_of c)) → (c : ℕ) → IsScalar c
    → Begins x (bytes_of c) → IsNext (always_gives bytes_of next) s x Incomplete
incomplete_from bytes_of next s x some longer c scalar front = (
  some,
  λ i p. (let b = Begins-agree (bytes_of p.is_item.0) x (rw (← p.is_item.2) p.front) in
      let l = longer p.is_item.0 p.is_item.1 b.1 in omega (arith, b.0, l)),
  record {
    bytes = bytes_of c;
    item = taken (length (bytes_of c)) (Some c) next;
    is_item = (c, scalar, refl, refl);
    front = front;
  },
)

-- what is next is the same by two relations with the same items
pub next_like : (A B : ItemRelation) (s t : ReadState) (x : List ℕ) → ((w : List ℕ) (i : Taken) → A s w i → B t w i)
    → ((w : List ℕ) (i : Taken) → B t w i → A s w i) → (item : Item) → IsNext A s x item → IsNext B t x item
next_like A B s t x f g (Char c n next) h = record { bytes = h.bytes; is_item = f h.bytes _ h.is_item; front = h.front }
next_like A B s t x f g (Shift n next) h = record { bytes = h.bytes; is_item = f h.bytes _ h.is_item; front = h.front }
next_like A B s t x f g Incomplete h = (
  h.0,
  λ i p. h.1 i (record { bytes = p.bytes; is_item = g p.bytes i p.is_item; front = p.front }),
  record { bytes = h.2.bytes; item = h.2.item; is_item = f h.2.bytes h.2.item h.2.is_item; front = h.2.front },
)
next_like A B s t x f g Ill h = (
  h.0,
  λ i p. h.1 i (record { bytes = p.bytes; is_item = g p.bytes i p.is_item; front = p.front }),
  λ p. h.2 (record { bytes = p.bytes; item = p.item; is_item = g p.bytes p.item p.is_item; front = p.front }),
)
next_like A B s t x f g End h = h
