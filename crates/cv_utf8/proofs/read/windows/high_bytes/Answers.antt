use Rattle.cv_utf8.proofs.Utf8WindowLanes.{high_at}
use Rattle.cv_utf8.proofs.read.windows.high_bytes.Goals as goal

pub returns : goal.returns
returns c k h = high_at c.args.first c.args.second c.three_high.result c.short_high.result k c.fits-first.0
    c.three_high.ensures.long c.short_high.ensures.long c.fits-first.1 c.fits-second.1 (c.three_high.ensures.bytes k h)
    (c.short_high.ensures.bytes k h) h
