use Rattle.cv_machine.proofs.Isolation.{two_worlds}
use Rattle.cv_machine.proofs.laws.two_worlds.Goals as goal

pub returns : goal.returns
returns g c = two_worlds g.M.Machine.turn c.assert_valid.ensures.one
