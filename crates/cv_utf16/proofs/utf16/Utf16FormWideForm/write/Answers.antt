use Rattle.std.proofs.Common.{◌≡◌, ◌∙◌, ap}
use Rattle.cv_base.specs.Units.{high_unit, low_unit}
use Rattle.cv_utf16.proofs.PutTwice.{units_put}
use Rattle.cv_utf16.proofs.utf16.Utf16FormWideForm.write.Goals as goal

pub returns-then-value-ge65536 : goal.returns-then-value-ge65536
returns-then-value-ge65536 g c =
    let is : c.value-value.result ≡ c.args.c = c.value-value.ensures.number in
    let above = rw is at c.if-value-ge65536.true in
    let first : c.lead_surrogate.result ≡ high_unit c.args.c = c.lead_surrogate.ensures.high c.if-value-ge65536.true
    ∙ ap high_unit is in
    let second : c.trail_surrogate.result ≡ low_unit c.args.c = c.trail_surrogate.ensures.low c.if-value-ge65536.true
    ∙ ap low_unit is in
    units_put g.O.ByteOrder.endian c.args.c c.lead_surrogate.result c.trail_surrogate.result
    c.args.out.now c.write_two.new.out _ c.args.at above first second c.requires c.write_two.ensures
    c.write_two-then-value-ge65536.ensures
