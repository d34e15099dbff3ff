use Rattle.std.proofs.Common.{arith}
use Rattle.cv_utf7.proofs.Tables.{digit_some, value_few}
use Rattle.cv_utf7.proofs.sets.value_or_more.Goals as goal

pub returns-clause-few : goal.returns-clause-few
returns-clause-few c = value_few c.args.b (omega arith)

pub returns-clause-digit : goal.returns-clause-digit
returns-clause-digit c h = digit_some c.args.b (omega arith) h
