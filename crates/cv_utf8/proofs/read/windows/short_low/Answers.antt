use Rattle.cv_utf8.proofs.Utf8WindowLanes.{short_low_at}
use Rattle.cv_utf8.proofs.read.windows.short_low.Goals as goal

pub returns : goal.returns
returns c k h =
    short_low_at c.args.first c.args.second k c.fits-first.0 c.fits-second.0 c.fits-first.1 c.fits-second.1 h
