use Rattle.cv_machine.proofs.Isolation.{any_schedule}
use Rattle.cv_machine.proofs.laws.schedules.Goals as goal

pub returns : goal.returns
returns g c = any_schedule g.M.Machine.turn c.assert_valid.ensures.one
