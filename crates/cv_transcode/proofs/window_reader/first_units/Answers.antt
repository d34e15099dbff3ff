use Rattle.std.proofs.Common.{arith, refl}
use Rattle.cv_block.proofs.FirstLanes.{first_are}
use Rattle.cv_transcode.proofs.window_reader.first_units.Goals as goal

pub returns : goal.returns
returns c = first_are 16 c.args.units c.args.n (omega arith) refl
