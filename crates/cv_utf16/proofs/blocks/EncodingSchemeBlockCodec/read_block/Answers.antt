use Rattle.cv_block.proofs.FormBlocks.{spelled_read}
use Rattle.cv_utf16.proofs.SpelledInOrder.{reads_spelled}
use Rattle.cv_utf16.proofs.blocks.EncodingSchemeBlockCodec.read_block.Goals as goal

pub returns-in-Some-Big-clause-block : goal.returns-in-Some-Big-clause-block
returns-in-Some-Big-clause-block g c =
    spelled_read _ _ _ (reads_spelled g.F.WideForm.form c.args.self.now.order c.args.state _ _ _ c.in-Some-Big.ensures
    c.in-Some-Big.field-0-is c.assert_form.ensures.be) c.args.input.now _ _ _ c.read_stateless.ensures.block

pub returns-in-Some-Little-clause-block : goal.returns-in-Some-Little-clause-block
returns-in-Some-Little-clause-block g c = spelled_read _ _ _ (reads_spelled g.F.WideForm.form c.args.self.now.order
    c.args.state _ _ _ c.in-Some-Little.ensures c.in-Some-Little.field-0-is c.assert_form.ensures.le) c.args.input.now _
    _ _ c.read_stateless-in-Some-Little.ensures.block
