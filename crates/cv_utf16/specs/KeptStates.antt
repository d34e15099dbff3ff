-- States of UTF-16 and UTF-32 that stay, in which the bytes of a character do not depend on its context.
use Rattle.std.specs.Prelude.{◌≡◌, ℕ, length, Some}
use Rattle.cv_base.specs.Scalars.{IsScalar}
use Rattle.cv_base.specs.Items.{taken}
use Rattle.cv_base.specs.declared.endian.Endian.{Endian}
use Rattle.cv_base.specs.declared.state.ReadState.{ReadState}
use Rattle.cv_base.specs.declared.state.WriteState.{WriteState}
use Rattle.cv_utf16.specs.declared.order.Order.{Order}
use Rattle.cv_utf16.specs.Orders.{OrderedForm, reads_in, writes_in}

-- In this state each scalar is read in this byte order, and the state stays.
abbrev pub KeepsReading : Order → ReadState → Endian → Type 0
KeepsReading order s endian = (form : OrderedForm) (c : ℕ) → IsScalar c
    → reads_in form order s (form endian c) (taken (length (form endian c)) (Some c) s)

-- In this state each character is written in this byte order, and the state stays.
abbrev pub KeepsWriting : Order → WriteState → Endian → Type 0
KeepsWriting order t endian = (form : OrderedForm) (c : ℕ) → writes_in form order t c ≡ Some (form endian c, t)
