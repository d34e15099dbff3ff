use Rattle.cv_utf7.proofs.Tables.{written_at, written_above}
use Rattle.cv_utf7.proofs.sets.stands.Goals as goal

pub returns-then-c-lt128 : goal.returns-then-c-lt128
returns-then-c-lt128 c = written_at c.args.c c.if-c-lt128.true

pub returns-else-c-lt128 : goal.returns-else-c-lt128
returns-else-c-lt128 c = written_above c.args.c c.if-c-lt128.false
