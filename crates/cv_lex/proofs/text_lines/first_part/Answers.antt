use Rattle.std.proofs.Common.{◌+◌, arith}
use Rattle.std.proofs.lemmas.List.{take_rest}
use Rattle.cv_lex.proofs.LineCuts.{part_passes, part_ends, part_last}
use Rattle.cv_lex.proofs.text_lines.first_part.Goals as goal

pub returns-then-n-text-clause-value : goal.returns-then-n-text-clause-value
returns-then-n-text-clause-value c =
    let text = c.args.text.now in
    let n = c.feed_at-n.result in
    rw (take_rest text (n + 1)) (part_ends text n (part_passes text n c.feed_at-n.ensures.within
    c.feed_at-n.ensures.none) c.if-n-text.true (c.feed_at-n.ensures.feed c.if-n-text.true))

pub returns-else-n-text-clause-value : goal.returns-else-n-text-clause-value
returns-else-n-text-clause-value c =
    let text = c.args.text.now in
    let n = c.feed_at-n.result in
    part_last text n (part_passes text n c.feed_at-n.ensures.within c.feed_at-n.ensures.none) (omega arith) c.requires
