use Rattle.cv_utf8.proofs.Utf8WindowLanes.{three_high_at, three_highs_long}
use Rattle.cv_utf8.proofs.read.masks.three_high.Goals as goal

pub returns-clause-long : goal.returns-clause-long
returns-clause-long c = three_highs_long 16 c.args.first c.args.second c.fits-first.0 c.fits-second.0

pub returns-clause-bytes : goal.returns-clause-bytes
returns-clause-bytes c k h =
    three_high_at c.args.first c.args.second k c.fits-first.0 c.fits-second.0 c.fits-first.1 c.fits-second.1 h
