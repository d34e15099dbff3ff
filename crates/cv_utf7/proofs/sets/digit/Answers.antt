use Rattle.std.proofs.Common.{arith}
use Rattle.cv_utf7.proofs.Tables.{digit_some, digit_none}
use Rattle.cv_utf7.proofs.sets.digit.Goals as goal

pub returns-then-value-lt64 : goal.returns-then-value-lt64
returns-then-value-lt64 c = digit_some c.args.b (omega arith) c.if-value-lt64.true

pub returns-else-value-lt64 : goal.returns-else-value-lt64
returns-else-value-lt64 c = digit_none c.args.b (omega arith) c.if-value-lt64.false
