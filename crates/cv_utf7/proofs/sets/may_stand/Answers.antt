use Rattle.cv_utf7.proofs.Tables.{direct_at, direct_above}
use Rattle.cv_utf7.proofs.sets.may_stand.Goals as goal

pub returns-then-b-lt128 : goal.returns-then-b-lt128
returns-then-b-lt128 c = direct_at c.args.b c.if-b-lt128.true

pub returns-else-b-lt128 : goal.returns-else-b-lt128
returns-else-b-lt128 c = direct_above c.args.b c.if-b-lt128.false
