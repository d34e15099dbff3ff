use Rattle.cv_transcode.proofs.ReadWindows.{bytes_window}
use Rattle.cv_transcode.proofs.latin1.Latin1WindowWindowReader.window.Goals as goal

pub returns : goal.returns
returns c = bytes_window c.args.text.now c.requires (λ k. (c.type_inv.text k).fits)
