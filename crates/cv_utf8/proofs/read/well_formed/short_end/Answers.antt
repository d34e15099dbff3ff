use Rattle.std.proofs.Common.{arith, length, ◌-◌}
use Rattle.cv_utf8.proofs.Utf8ShortFront.{short_more}
use Rattle.cv_utf8.proofs.read.well_formed.short_end.Goals as goal

pub returns-then-are_short-clause-short : goal.returns-then-are_short-clause-short
returns-then-are_short-clause-short c k h =
    let text = c.args.text.now in
    short_more text c.args.from (length text - 1 - 16) 16 c.if-last-from.true c.requires.short
    (c.are_short.ensures c.if-are_short.true) k (omega (arith, c.if-last-ge-STEP.true))
