-- Small characters in UTF-16 and UTF-32, in the states that stay.
use Rattle.std.proofs.Common.{◌≡◌, ℕ, ◌<◌, ◌∙◌, ap, subst, arith, length, Some}
use Rattle.cv_base.specs.Scalars.{IsScalar}
use Rattle.cv_base.specs.Items.{taken}
use Rattle.cv_base.specs.Ascii.{ReadsAscii, WritesAscii, ReadsBelow, WritesBelow}
use Rattle.cv_base.specs.Units.{unit_of, unit_size, unit_limit}
use Rattle.cv_base.specs.declared.ascii_form.AsciiForm.{AsciiForm}
use Rattle.cv_base.specs.declared.ascii_form.AsciiForm.TheVariants.{Byte, Two, Four}
use Rattle.cv_base.specs.declared.endian.Endian.{Endian}
use Rattle.cv_base.specs.declared.state.ReadState.{ReadState}
use Rattle.cv_base.specs.declared.state.WriteState.{WriteState}
use Rattle.cv_block.specs.Units.{HasUnits}
use Rattle.cv_block.proofs.UnitBytes.{length-unit_of}
use Rattle.cv_utf16.specs.declared.order.Order.{Order}
use Rattle.cv_utf16.specs.Orders.{OrderedForm, reads_in, writes_in}
use Rattle.cv_utf16.specs.KeptStates.{KeepsReading, KeepsWriting}

small_scalar : (c : ℕ) → c < 256 → IsScalar c
small_scalar c h = (omega arith, λ p. absurd (omega arith))

latin_fits : (unit : AsciiForm) (c : ℕ) → c < 256 → c < unit_limit unit
latin_fits Byte c h = h
latin_fits (Two e) c h = omega arith
latin_fits (Four e) c h = omega arith

-- a form reads the characters below 256 as one unit each
pub reads_latin : (form : OrderedForm) (order : Order) (s : ReadState) (e : Endian) (unit : AsciiForm)
    → KeepsReading order s e → HasUnits unit (form e) → ReadsBelow 256 (reads_in form order) s unit
reads_latin form order s e unit keeps spells c h =
    let is : form e c ≡ unit_of unit c = spells c (latin_fits unit c h) in
    let reads = keeps form c (small_scalar c h) in
    let sized = subst (λ (n : ℕ). reads_in form order s (form e c) (taken n (Some c) s))
    (ap length is ∙ length-unit_of unit c) reads in
    subst (λ w. reads_in form order s w (taken (unit_size unit) (Some c) s)) is sized

-- a form reads the ASCII characters as one unit each
pub reads_ascii : (form : OrderedForm) (order : Order) (s : ReadState) (e : Endian) (unit : AsciiForm)
    → KeepsReading order s e → HasUnits unit (form e) → ReadsAscii (reads_in form order) s unit
reads_ascii form order s e unit keeps spells c h = reads_latin form order s e unit keeps spells c (omega arith)

-- a form writes the characters below 256 as one unit each
pub writes_latin : (form : OrderedForm) (order : Order) (t : WriteState) (e : Endian) (unit : AsciiForm)
    → KeepsWriting order t e → HasUnits unit (form e) → WritesBelow 256 (writes_in form order) t unit
writes_latin form order t e unit keeps spells c h = keeps form c
    ∙ ap (λ w. Some (w, t)) (spells c (latin_fits unit c h))

-- a form writes the ASCII characters as one unit each
pub writes_ascii : (form : OrderedForm) (order : Order) (t : WriteState) (e : Endian) (unit : AsciiForm)
    → KeepsWriting order t e → HasUnits unit (form e) → WritesAscii (writes_in form order) t unit
writes_ascii form order t e unit keeps spells c h = writes_latin form order t e unit keeps spells c (omega arith)
