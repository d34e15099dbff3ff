use Rattle.std.proofs.Common.{arith}
use Rattle.cv_utf7.proofs.SetMembers.{written_lt}
use Rattle.cv_utf7.proofs.write.runs.narrow.Goals as goal

pub returns : goal.returns
returns c e = omega (arith, written_lt _ e)
