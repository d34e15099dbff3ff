use Rattle.cv_utf8.proofs.Utf8ShortLanes.{none_above}
use Rattle.cv_utf8.proofs.read.short.are_latin1.Goals as goal

pub returns-clause-short : goal.returns-clause-short
returns-clause-short c t k h =
    c.excess-above.ensures.lanes k h (none_above c.excess-above.result k c.excess-above.ensures.long t h)

pub returns-clause-low : goal.returns-clause-low
returns-clause-low c t k h =
    c.excess-above.ensures.most k h (none_above c.excess-above.result k c.excess-above.ensures.long t h)
