use Rattle.std.proofs.Common.{arith}
use Rattle.cv_lex.proofs.FeedBits.{none_more}
use Rattle.cv_lex.proofs.feeds.feed_at.Goals as goal

pub returns-then-run-lt-LANES-clause-none : goal.returns-then-run-lt-LANES-clause-none
returns-then-run-lt-LANES-clause-none c =
    none_more c.args.text.now c.loop-n.n _ c.loop-n.invariant.none c.before_feed-run.ensures.none

pub loop-n-preserved : goal.loop-n-preserved
loop-n-preserved c = record {
  within = omega arith;
  none = none_more c.args.text.now c.loop-n.n 32 c.loop-n.invariant.none
      (λ k h. c.before_feed-run.ensures.none k (omega arith));
}
