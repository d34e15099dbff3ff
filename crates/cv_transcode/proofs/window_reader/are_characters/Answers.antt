use Rattle.std.proofs.Common.{arith}
use Rattle.std.proofs.lemmas.Bool.{eqb-true}
use Rattle.cv_transcode.proofs.Lanes.{all_scalars}
use Rattle.cv_transcode.proofs.window_reader.are_characters.Goals as goal

pub returns : goal.returns
returns c sure = all_scalars c.args.units (omega arith) c.requires (eqb-true _ 0 sure)
