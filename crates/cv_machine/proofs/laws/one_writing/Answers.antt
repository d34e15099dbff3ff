use Rattle.cv_machine.proofs.Isolation.{one_writing}
use Rattle.cv_machine.proofs.laws.one_writing.Goals as goal

pub returns : goal.returns
returns g c = one_writing g.M.Machine.turn c.assert_valid.ensures.one
