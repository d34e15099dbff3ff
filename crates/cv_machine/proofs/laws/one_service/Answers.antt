use Rattle.cv_machine.proofs.Isolation.{one_service}
use Rattle.cv_machine.proofs.laws.one_service.Goals as goal

pub returns : goal.returns
returns g c = one_service g.M.Machine.turn c.assert_valid.ensures.one
