-- In a state that stays, a form in the order of the state is a spelling.
use Rattle.std.proofs.Common.{◌≡◌, sym, subst}
use Rattle.cv_base.specs.declared.endian.Endian.{Endian}
use Rattle.cv_base.specs.declared.state.ReadState.{ReadState}
use Rattle.cv_base.specs.declared.state.WriteState.{WriteState}
use Rattle.cv_block.specs.StatelessForms.{BytesOf}
use Rattle.cv_block.proofs.FormBlocks.{ReadsForm, WritesForm}
use Rattle.cv_utf16.specs.declared.order.Order.{Order}
use Rattle.cv_utf16.specs.Orders.{OrderedForm, reads_in, writes_in}
use Rattle.cv_utf16.specs.KeptStates.{KeepsReading, KeepsWriting}

-- a form is read as its spelling
pub reads_spelled : (form : OrderedForm) (order : Order) (s : ReadState) (kept e : Endian) (bytes_of : BytesOf)
    → KeepsReading order s kept → kept ≡ e → bytes_of ≡ form e → ReadsForm (reads_in form order) s bytes_of
reads_spelled form order s kept e bytes_of keeps at is = subst (λ (b : BytesOf). ReadsForm (reads_in form order) s b)
    (sym is) (subst (λ (a : Endian). KeepsReading order s a) at keeps form)

-- a form is written as its spelling
pub writes_spelled : (form : OrderedForm) (order : Order) (t : WriteState) (kept e : Endian) (bytes_of : BytesOf)
    → KeepsWriting order t kept → kept ≡ e → bytes_of ≡ form e → WritesForm (writes_in form order) t bytes_of
writes_spelled form order t kept e bytes_of keeps at is = subst (λ (b : BytesOf). WritesForm (writes_in form order) t b)
    (sym is) (subst (λ (a : Endian). KeepsWriting order t a) at keeps form)
