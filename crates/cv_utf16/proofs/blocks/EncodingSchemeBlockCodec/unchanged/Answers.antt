use Rattle.std.proofs.Common.{refl}
use Rattle.cv_base.specs.declared.endian.Endian.TheVariants.{Big, Little}
use Rattle.cv_block.proofs.FormPrefixes.{spelled_unchanged}
use Rattle.cv_utf16.specs.Orders.{reads_in, writes_in}
use Rattle.cv_utf16.proofs.SpelledInOrder.{reads_spelled, writes_spelled}
use Rattle.cv_utf16.proofs.blocks.EncodingSchemeBlockCodec.unchanged.Goals as goal

pub returns-in-Some-Big : goal.returns-in-Some-Big
returns-in-Some-Big g c =
    let form = g.F.WideForm.form in
    let order = c.args.self.now.order in
    let kept = c.in-Some-Big.ensures in
    spelled_unchanged (reads_in form order) (writes_in form order) _ _ (form Big)
    (reads_spelled form order c.args.reading _ _ _ kept.0 c.in-Some-Big.field-0-is refl)
    (writes_spelled form order c.args.writing _ _ _ kept.1 c.in-Some-Big.field-0-is refl)
    c.args.input.now _ (c.unit_prefix_len.ensures.prefix (form Big) c.assert_form.ensures.be_unit)

pub returns-in-Some-Little : goal.returns-in-Some-Little
returns-in-Some-Little g c =
    let form = g.F.WideForm.form in
    let order = c.args.self.now.order in
    let kept = c.in-Some-Little.ensures in
    spelled_unchanged (reads_in form order) (writes_in form order) _ _ (form Little)
    (reads_spelled form order c.args.reading _ _ _ kept.0 c.in-Some-Little.field-0-is refl)
    (writes_spelled form order c.args.writing _ _ _ kept.1 c.in-Some-Little.field-0-is refl)
    c.args.input.now _ (c.unit_prefix_len-in-Some-Little.ensures.prefix (form Little) c.assert_form.ensures.le_unit)
