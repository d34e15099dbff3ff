use Rattle.cv_utf8.proofs.Utf8WindowLanes.{low_at}
use Rattle.cv_utf8.proofs.read.windows.low_bytes.Goals as goal

pub returns : goal.returns
returns c k h = low_at c.args.first c.args.second c.args.third k c.fits-first.0 c.fits-second.0 c.fits-third.0
    c.fits-first.1 c.fits-second.1 c.fits-third.1 h
