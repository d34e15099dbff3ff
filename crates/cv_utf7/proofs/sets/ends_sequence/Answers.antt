use Rattle.std.proofs.Common.{arith}
use Rattle.cv_utf7.proofs.Tables.{ends_some, ends_all}
use Rattle.cv_utf7.proofs.sets.ends_sequence.Goals as goal

pub returns : goal.returns
returns c = (ends_some c.args.b (omega arith), ends_all c.args.b (omega arith))
