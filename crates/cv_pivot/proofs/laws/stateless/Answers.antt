use Rattle.cv_pivot.proofs.Stateless.{stays_at_start}
use Rattle.cv_pivot.proofs.laws.stateless.Goals as goal

pub returns : goal.returns
returns c = stays_at_start
