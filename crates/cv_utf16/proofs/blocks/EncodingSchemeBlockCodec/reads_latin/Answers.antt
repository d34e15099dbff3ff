use Rattle.cv_utf16.proofs.AsciiInOrder.{reads_latin}
use Rattle.cv_utf16.proofs.blocks.EncodingSchemeBlockCodec.reads_latin.Goals as goal

pub returns : goal.returns
returns g c = reads_latin g.F.WideForm.form c.args.self.now.order c.args.state c.in_ok-endian.endian c.unit_form.result
    c.in_ok-endian.ensures c.unit_form.ensures
