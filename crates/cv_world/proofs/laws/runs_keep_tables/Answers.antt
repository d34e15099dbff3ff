use Rattle.cv_world.proofs.KeepsTables as keeps
use Rattle.cv_world.proofs.laws.runs_keep_tables.Goals as goal

pub returns : goal.returns
returns c = keeps.runs_keep_tables
