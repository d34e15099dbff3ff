use Rattle.std.proofs.Common.{◌∙◌, ap}
use Rattle.cv_base.specs.Units.{unit_size}
use Rattle.cv_transcode.proofs.AsciiConverted.{ascii_converted}
use Rattle.cv_transcode.proofs.ascii_runs.convert_ascii.Goals as goal

pub returns-clause-run : goal.returns-clause-run
returns-clause-run g c =
    let run = rw (c.form.ensures.value, c.form-2.ensures.value) at c.take_ascii_run-n.ensures in
    let read = c.unit_bytes.ensures ∙ ap unit_size c.form-3.ensures.value in
    let written = c.unit_bytes-2.ensures ∙ ap unit_size c.form-4.ensures.value in
    rw (read, written) (ascii_converted g.S.WindowReader.form g.T.WindowWriter.form g.S.WindowReader.bytes_of
    g.T.WindowWriter.bytes_of c.form.ensures.spells c.form-2.ensures.spells c.args.text.now c.args.out.now c.args.at
    c.take_ascii_run-n.result _ run.stand run.fit run.small run.out)
