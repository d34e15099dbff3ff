use Rattle.cv_utf8.proofs.Utf8ShortFront.{short_closed}
use Rattle.cv_utf8.proofs.read.well_formed.short_prefix_len.Goals as goal

pub returns-clause-well_formed : goal.returns-clause-well_formed
returns-clause-well_formed c =
    short_closed c.args.text.now c.short_end-n.result c.type_inv.text c.short_end-n.ensures.within
    (rw c.is_continuation.ensures at c.if-is_continuation.false) c.short_end-n.ensures.short
