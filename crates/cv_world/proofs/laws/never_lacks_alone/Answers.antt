use Rattle.cv_world.proofs.NotAlone as alone
use Rattle.cv_world.proofs.laws.never_lacks_alone.Goals as goal

pub returns : goal.returns
returns c = alone.never_lacks_alone
