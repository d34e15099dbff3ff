use Rattle.cv_utf8.proofs.Utf8WindowLanes.{word_at}
use Rattle.cv_utf8.proofs.read.windows.numbers_of.Goals as goal

pub returns : goal.returns
returns c k h = word_at c.args.low c.args.high k c.fits-low.0 c.fits-high.0 c.fits-low.1 c.fits-high.1 h
