use Rattle.cv_lex.proofs.FeedBits.{count_all, count_some, count_le, count_before, count_at}
use Rattle.cv_lex.proofs.feeds.before_feed.Goals as goal

pub returns-then-feeds-eq0-clause-none : goal.returns-then-feeds-eq0-clause-none
returns-then-feeds-eq0-clause-none c = count_before c.args.text.now c.args.from c.requires 32
    (count_all c.args.text.now c.args.from c.requires c.if-feeds-eq0.true)

pub returns-else-feeds-eq0-clause-within : goal.returns-else-feeds-eq0-clause-within
returns-else-feeds-eq0-clause-within c = count_le c.args.text.now c.args.from c.requires _
    (count_some c.args.text.now c.args.from c.requires c.if-feeds-eq0.false)

pub returns-else-feeds-eq0-clause-none : goal.returns-else-feeds-eq0-clause-none
returns-else-feeds-eq0-clause-none c = count_before c.args.text.now c.args.from c.requires _
    (count_some c.args.text.now c.args.from c.requires c.if-feeds-eq0.false)

pub returns-else-feeds-eq0-clause-feed : goal.returns-else-feeds-eq0-clause-feed
returns-else-feeds-eq0-clause-feed c = count_at c.args.text.now c.args.from c.requires _
    (count_some c.args.text.now c.args.from c.requires c.if-feeds-eq0.false)
