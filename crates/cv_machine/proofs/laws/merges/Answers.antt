use Rattle.cv_machine.proofs.Isolation.{any_merge}
use Rattle.cv_machine.proofs.laws.merges.Goals as goal

pub returns : goal.returns
returns g c = any_merge g.M.Machine.turn
