use Rattle.cv_utf8.proofs.Utf8WindowLanes.{short_high_at, short_highs_long}
use Rattle.cv_utf8.proofs.read.windows.short_high.Goals as goal

pub returns-clause-long : goal.returns-clause-long
returns-clause-long c = short_highs_long 16 c.args.first c.fits-first.0

pub returns-clause-bytes : goal.returns-clause-bytes
returns-clause-bytes c k h = short_high_at c.args.first k c.fits-first.0 c.fits-first.1 h
