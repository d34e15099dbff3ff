use Rattle.cv_transcode.proofs.ToLatin1.{window_converted}
use Rattle.cv_transcode.proofs.to_latin1.convert_window.Goals as goal

pub returns : goal.returns
returns c = window_converted c.args.text.now c.args.out.now c.args.from c.args.at c.write_bytes.result
    c.in-Some.units _ c.in-Some.ensures.read c.write_bytes.ensures
