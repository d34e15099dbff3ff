use Rattle.cv_world.proofs.Stateless as stateless
use Rattle.cv_world.proofs.laws.stateless.Goals as goal

pub returns : goal.returns
returns c = stateless.stateless
