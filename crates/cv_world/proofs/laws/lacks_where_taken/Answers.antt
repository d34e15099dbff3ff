use Rattle.cv_world.proofs.Memory as memory
use Rattle.cv_world.proofs.laws.lacks_where_taken.Goals as goal

pub returns : goal.returns
returns c = memory.lacks_where_taken
