use Rattle.cv_loop.proofs.FirstServed.{first_served}
use Rattle.cv_loop.proofs.laws.first_served.Goals as goal

pub returns : goal.returns
returns g c = first_served g.M.Machine.turn c.assert_valid.ensures.one
