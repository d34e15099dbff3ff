use Rattle.cv_transcode.proofs.ReadWindows.{units_read}
use Rattle.cv_transcode.proofs.utf16.Utf16WindowWindowReader.window.Goals as goal

pub returns : goal.returns
returns g c = units_read _ c.args.text.now c.units_of.result c.units_of.ensures.long c.units_of.ensures.units
