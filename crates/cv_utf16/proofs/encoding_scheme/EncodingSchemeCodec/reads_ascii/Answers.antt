use Rattle.cv_utf16.proofs.AsciiInOrder.{reads_ascii}
use Rattle.cv_utf16.proofs.encoding_scheme.EncodingSchemeCodec.reads_ascii.Goals as goal

pub returns : goal.returns
returns g c = reads_ascii g.F.WideForm.form c.args.self.now.order c.args.state c.in_ok-endian.endian c.unit_form.result
    c.in_ok-endian.ensures c.unit_form.ensures
