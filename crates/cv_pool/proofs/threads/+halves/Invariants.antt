use Rattle.std.proofs.Common.{length, ◌+◌, ◌-◌, ◌*◌}
use Rattle.cv_pool.proofs.threads.+halves.Given as goal

abbrev pub decreases-answer_from : goal.decreases-answer_from
decreases-answer_from g l = 4 * length l.shards.now

abbrev pub decreases-answer_at_once : goal.decreases-answer_at_once
decreases-answer_at_once g l = 4 * (length l.low.now + length l.high.now) - 1

abbrev pub decreases-answer_at_once-answer_low : goal.decreases-answer_at_once-answer_low
decreases-answer_at_once-answer_low g l = 4 * length l.low.now + 1

abbrev pub decreases-answer_at_once-answer_high : goal.decreases-answer_at_once-answer_high
decreases-answer_at_once-answer_high g l = 4 * length l.high.now + 1
