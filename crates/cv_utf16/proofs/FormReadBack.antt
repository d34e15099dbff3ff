-- What UTF-16 and UTF-32 write is read back.
use Rattle.std.proofs.Common.{◌≡◌, ℕ, List, [], ◌∷◌, ◌++◌, refl, sym, subst, inl}
use Rattle.cv_base.specs.Items.{ItemRelation}
use Rattle.cv_base.specs.ReadBack.{ReadsBack}
use Rattle.cv_base.specs.declared.endian.Endian.TheVariants.{Big, Little}
use Rattle.cv_base.specs.declared.state.ReadState.{ReadState}
use Rattle.cv_base.specs.declared.state.ReadState.TheVariants as read
use Rattle.cv_base.specs.declared.state.WriteState.{WriteState}
use Rattle.cv_base.specs.declared.state.WriteState.TheVariants as write
use Rattle.cv_base.proofs.ReadBacks.{Together, IsReadFrom, EachReadsBack, one_item, mark_and_item, same_written}
use Rattle.cv_base.proofs.ReadBacks.{no_closing, texts_back}
use Rattle.cv_utf16.specs.declared.order.Order.{Order}
use Rattle.cv_utf16.specs.declared.order.Order.TheVariants.{Be, Le, Marked}
use Rattle.cv_utf16.specs.Orders.{OrderedForm, reads_in, writes_in, mark}

-- A reader and a writer of one text are both at its start, or both after its big-endian mark.
abbrev pub BothAt : Together
BothAt write.Start s = s ≡ read.Start
BothAt write.Marked s = s ≡ read.Big
BothAt (write.Shifted bits) s = ⊥

-- what was written for a scalar is read as it
abbrev pub is_read : OrderedForm → Order → ReadState → ℕ → List ℕ → WriteState → Type 0
is_read form order s c bytes next = IsReadFrom (reads_in form order) s bytes (c ∷ []) (BothAt next)

at_same : (reads : ItemRelation) (r s : ReadState) (bytes : List ℕ) (c : ℕ) (IsAfter : ReadState → Type 0) → s ≡ r
    → IsReadFrom reads r bytes (c ∷ []) IsAfter → IsReadFrom reads s bytes (c ∷ []) IsAfter
at_same reads r s bytes c IsAfter e h = subst (λ a. IsReadFrom reads a bytes (c ∷ []) IsAfter) (sym e) h

each_back : (form : OrderedForm) (order : Order) → EachReadsBack (reads_in form order) (writes_in form order) BothAt
each_back form Be t s c bytes next m scalar e = same_written (is_read form Be s c) (form Big c) bytes write.Start next
    (one_item (reads_in form Be) s read.Start (form Big c) c (BothAt write.Start) (c, scalar, refl, refl) refl) e
each_back form Le t s c bytes next m scalar e =
    same_written (is_read form Le s c) (form Little c) bytes write.Start next
    (one_item (reads_in form Le) s read.Start (form Little c) c (BothAt write.Start) (c, scalar, refl, refl) refl) e
each_back form Marked write.Start s c bytes next m scalar e = same_written (is_read form Marked s c)
    (form Big mark ++ form Big c) bytes write.Marked next (at_same (reads_in form Marked) read.Start s
    (form Big mark ++ form Big c) c (BothAt write.Marked) m (mark_and_item (reads_in form Marked) read.Start read.Big
    read.Big (form Big mark) (form Big c) c (BothAt write.Marked) (inl (refl, refl)) (c, scalar, refl, refl) refl)) e
each_back form Marked write.Marked s c bytes next m scalar e = same_written (is_read form Marked s c) (form Big c)
    bytes write.Marked next (at_same (reads_in form Marked) read.Big s (form Big c) c (BothAt write.Marked) m (one_item
    (reads_in form Marked) read.Big read.Big (form Big c) c (BothAt write.Marked) (c, scalar, refl, refl) refl)) e
each_back form Marked (write.Shifted bits) s c bytes next m scalar e = absurd m

-- each form reads back in each order the texts that it writes
pub form_reads_back : (form : OrderedForm) (order : Order)
    → ReadsBack (reads_in form order) (writes_in form order) (λ t. [])
form_reads_back form order = texts_back (reads_in form order) (writes_in form order) (λ t. []) BothAt
    (each_back form order) (no_closing (reads_in form order) BothAt) refl
