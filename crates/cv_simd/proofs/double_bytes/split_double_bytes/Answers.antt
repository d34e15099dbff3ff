use Rattle.std.proofs.Common.{◌+◌, arith}
use Rattle.cv_simd.proofs.SplitStarts.{marked_low, marked_behind, start_after, split_joined}
use Rattle.cv_simd.proofs.double_bytes.split_double_bytes.Goals as goal

pub split_four-first-requires-clause-marked : goal.split_four-first-requires-clause-marked
split_four-first-requires-clause-marked c =
    marked_low c.args.text.now c.args.at c.lead_mask-mask.result c.lead_mask-mask.ensures

pub split_four-second-requires-clause-marked : goal.split_four-second-requires-clause-marked
split_four-second-requires-clause-marked c =
    let first = c.split_four-first in
    marked_behind c.args.text.now c.args.at c.lead_mask-mask.result first.result.used first.ensures.few
    c.lead_mask-mask.ensures

pub returns-clause-split : goal.returns-clause-split
returns-clause-split c =
    let first = c.split_four-first in
    let second = c.split_four-second in
    let both = c.both_fours in
    split_joined c.args.text.now c.args.at (c.args.at + first.result.used) first.result.pairs second.result.pairs
    both.result first.ensures.used first.ensures.split second.ensures.split both.ensures.first both.ensures.second

pub returns-clause-used : goal.returns-clause-used
returns-clause-used c =
    let first = c.split_four-first in
    let behind = start_after c.args.text.now c.args.at (c.args.at + first.result.used) 4 4 first.ensures.used in
    omega (arith, behind, c.split_four-second.ensures.used)
