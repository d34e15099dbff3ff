use Rattle.cv_transcode.proofs.ReadWindows.{narrow_read}
use Rattle.cv_transcode.proofs.utf32.Utf32WindowWindowReader.window.Goals as goal

pub returns : goal.returns
returns g c = narrow_read _ c.args.text.now c.numbers_of.result c.narrowed.result c.narrowed.ensures.long
    c.numbers_of.ensures.units c.narrowed.ensures.units
