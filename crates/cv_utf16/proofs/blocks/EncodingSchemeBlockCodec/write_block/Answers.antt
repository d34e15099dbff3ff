use Rattle.cv_block.proofs.FormBlocks.{spelled_written}
use Rattle.cv_utf16.specs.Orders.{writes_in}
use Rattle.cv_utf16.proofs.AllWritten.{in_allowed}
use Rattle.cv_utf16.proofs.SpelledInOrder.{writes_spelled}
use Rattle.cv_utf16.proofs.blocks.EncodingSchemeBlockCodec.write_block.Goals as goal

pub returns-in-Big : goal.returns-in-Big
returns-in-Big g c =
    let form = g.F.WideForm.form in
    let order = c.args.self.now.order in (
      in_allowed form order c.args._policy c.args.state c.args.characters.now,
      spelled_written (writes_in form order) _ _
          (writes_spelled form order c.args.state _ _ _ c.in_ok-kept_writing.ensures c.in-Big.is
          c.assert_form.ensures.be) c.args.characters.now c.args.out.now c.args.at _ _ c.write_stateless.ensures,
    )

pub returns-in-Little : goal.returns-in-Little
returns-in-Little g c =
    let form = g.F.WideForm.form in
    let order = c.args.self.now.order in (
      in_allowed form order c.args._policy c.args.state c.args.characters.now,
      spelled_written (writes_in form order) _ _
          (writes_spelled form order c.args.state _ _ _ c.in_ok-kept_writing.ensures c.in-Little.is
          c.assert_form.ensures.le) c.args.characters.now c.args.out.now c.args.at _ _
          c.write_stateless-in-Little.ensures,
    )
