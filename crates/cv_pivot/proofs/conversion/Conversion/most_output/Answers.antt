use Rattle.std.proofs.Common.{arith}
use Rattle.cv_pivot.proofs.RoomForTheMost.{most_output}
use Rattle.cv_pivot.proofs.conversion.Conversion.most_output.Goals as goal

pub returns : goal.returns
returns c = most_output _ _ _ c.assert_valid.ensures.readable c.most_bytes.ensures.most c.args.len _ (omega arith)
