use Rattle.cv_world.proofs.StartAgain as again
use Rattle.cv_world.proofs.laws.bye_starts_again.Goals as goal

pub returns : goal.returns
returns c = again.bye_starts_again
