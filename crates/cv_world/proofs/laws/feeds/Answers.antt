use Rattle.cv_world.proofs.Feeding as feeding
use Rattle.cv_world.proofs.laws.feeds.Goals as goal

pub returns : goal.returns
returns c = feeding.feeds
