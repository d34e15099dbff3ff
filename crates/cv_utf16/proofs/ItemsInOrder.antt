-- What is next in each order, from what is next in the order of the state.
use Rattle.std.proofs.Common.{◌≡◌, ℕ, List, sym, refl, subst}
use Rattle.cv_base.specs.Items.{IsNext}
use Rattle.cv_base.specs.declared.endian.Endian.TheVariants.{Big, Little}
use Rattle.cv_base.specs.declared.state.Bits.{Bits}
use Rattle.cv_base.specs.declared.state.ReadState.{ReadState}
use Rattle.cv_base.specs.declared.state.ReadState.TheVariants as read
use Rattle.cv_base.specs.declared.item.Item.{Item}
use Rattle.cv_utf16.specs.declared.order.Order.{Order}
use Rattle.cv_utf16.specs.declared.order.Order.TheVariants.{Be, Le, Marked}
use Rattle.cv_utf16.specs.Orders.{OrderedForm, reads_in}
use Rattle.cv_utf16.specs.Private.AnyState.{always_gives, always_first}
use Rattle.cv_utf16.proofs.OneOrder.{next_like}

-- what is next is the same if the order and the state are known
at_state : (form : OrderedForm) (o order : Order) (r s : ReadState) (x : List ℕ) (i : Item) → order ≡ o → s ≡ r
    → IsNext (reads_in form o) r x i → IsNext (reads_in form order) s x i
at_state form o order r s x i e f h =
    subst (λ a. IsNext (reads_in form a) s x i) (sym e) (subst (λ a. IsNext (reads_in form o) a x i) (sym f) h)

-- with the high byte first, whatever the state
pub in_be : (form : OrderedForm) (order : Order) (s t : ReadState) (x : List ℕ) (i : Item) → order ≡ Be
    → IsNext (always_gives (form Big) read.Start) t x i → IsNext (reads_in form order) s x i
in_be form order s t x i e h = at_state form Be order s s x i e refl
    (next_like (always_gives (form Big) read.Start) (reads_in form Be) t s x (λ w i p. p) (λ w i p. p) i h)

-- with the low byte first
pub in_le : (form : OrderedForm) (order : Order) (s t : ReadState) (x : List ℕ) (i : Item) → order ≡ Le
    → IsNext (always_gives (form Little) read.Start) t x i → IsNext (reads_in form order) s x i
in_le form order s t x i e h = at_state form Le order s s x i e refl
    (next_like (always_gives (form Little) read.Start) (reads_in form Le) t s x (λ w i p. p) (λ w i p. p) i h)

-- after a big-endian mark
pub in_big : (form : OrderedForm) (order : Order) (s t : ReadState) (x : List ℕ) (i : Item) → order ≡ Marked
    → s ≡ read.Big → IsNext (always_gives (form Big) read.Big) t x i → IsNext (reads_in form order) s x i
in_big form order s t x i e f h = at_state form Marked order read.Big s x i e f
    (next_like (always_gives (form Big) read.Big) (reads_in form Marked) t read.Big x (λ w i p. p) (λ w i p. p) i h)

-- after a little-endian mark
pub in_little : (form : OrderedForm) (order : Order) (s t : ReadState) (x : List ℕ) (i : Item) → order ≡ Marked
    → s ≡ read.Little → IsNext (always_gives (form Little) read.Little) t x i → IsNext (reads_in form order) s x i
in_little form order s t x i e f h = at_state form Marked order read.Little s x i e f (next_like
    (always_gives (form Little) read.Little) (reads_in form Marked) t read.Little x (λ w i p. p) (λ w i p. p) i h)

-- at the start of a text that may have a mark
pub in_start : (form : OrderedForm) (order : Order) (s : ReadState) (x : List ℕ) (i : Item) → order ≡ Marked
    → s ≡ read.Start → ((t : ReadState) → IsNext (always_first form) t x i) → IsNext (reads_in form order) s x i
in_start form order s x i e f h = at_state form Marked order read.Start s x i e f (next_like (always_first form)
    (reads_in form Marked) read.Start read.Start x (λ w i p. p) (λ w i p. p) i (h read.Start))

-- in a state that the order does not use, which means the start
pub in_shifted : (form : OrderedForm) (bits : Bits) (order : Order) (s : ReadState) (x : List ℕ) (i : Item)
    → order ≡ Marked → s ≡ read.Shifted bits → ((t : ReadState) → IsNext (always_first form) t x i)
    → IsNext (reads_in form order) s x i
in_shifted form bits order s x i e f h =
    at_state form Marked order (read.Shifted bits) s x i e f (next_like (always_first form) (reads_in form Marked)
    (read.Shifted bits) (read.Shifted bits) x (λ w i p. p) (λ w i p. p) i (h (read.Shifted bits)))
