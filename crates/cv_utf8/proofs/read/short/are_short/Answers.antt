use Rattle.cv_utf8.proofs.Utf8ShortLanes.{none_above}
use Rattle.cv_utf8.proofs.read.short.are_short.Goals as goal

pub returns : goal.returns
returns c t k h = c.excess-above.ensures.lanes k h (none_above c.excess-above.result k c.excess-above.ensures.long t h)
