use Rattle.cv_utf8.proofs.Utf8ShortLanes.{four_short}
use Rattle.cv_utf8.proofs.read.short.are_short_block.Goals as goal

pub returns : goal.returns
returns c t =
    let first = c.excess in
    let second = c.excess-2 in
    let third = c.excess-3 in
    let fourth = c.excess-4 in
    four_short c.args.input.now c.args.at first.result second.result third.result fourth.result
    (first.ensures.long, first.ensures.lanes) (second.ensures.long, second.ensures.lanes)
    (third.ensures.long, third.ensures.lanes) (fourth.ensures.long, fourth.ensures.lanes) t
