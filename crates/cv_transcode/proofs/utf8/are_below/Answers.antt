use Rattle.std.proofs.Common.{arith}
use Rattle.std.proofs.lemmas.Bool.{eqb-true}
use Rattle.cv_transcode.proofs.Lanes.{all_below}
use Rattle.cv_transcode.proofs.utf8.are_below.Goals as goal

pub returns : goal.returns
returns c sure = all_below c.args.limit c.args.units (omega arith) (eqb-true _ 0 sure)
