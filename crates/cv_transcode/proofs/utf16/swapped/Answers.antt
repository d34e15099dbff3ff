use Rattle.std.proofs.Common.{arith}
use Rattle.cv_transcode.proofs.Ordered.{big_are}
use Rattle.cv_transcode.proofs.utf16.swapped.Goals as goal

pub returns : goal.returns
returns c = big_are 16 c.args.units (omega arith) (λ k h. c.requires k (omega arith))
