use Rattle.std.proofs.Common.{rules}
use Rattle.std.proofs.iter.runs.Made.{chains}
use Rattle.cv_caller.proofs.charmaps.count_mappings.Goals as goal

pub returns : goal.returns
returns c = search (rules, chains)
