use Rattle.std.proofs.Common.{◌≡◌, refl}
use Rattle.cv_base.specs.declared.ascii_form.AsciiForm.TheVariants.{Byte}
use Rattle.cv_block.proofs.AsciiRuns.{bytes_at}
use Rattle.cv_block.proofs.limited_units.are_below.Goals as goal

pub returns-then-is_byte : goal.returns-then-is_byte
returns-then-is_byte g c h =
    let byte : g.U.Unit.form ≡ Byte = rw c.if-is_byte.true at c.is_byte.ensures refl in
    bytes_at g.R.CodeLimit.limit g.U.Unit.form c.args.bytes.now c.args.at 16 byte c.requires (c.are_bytes.ensures h)
