use Rattle.std.proofs.Common.{arith}
use Rattle.cv_utf8.proofs.Utf8Quads.{first_bytes_are}
use Rattle.cv_utf8.proofs.write.three_byte.first_bytes.Goals as goal

pub returns : goal.returns
returns c = first_bytes_are 16 c.args.units (omega arith) (λ k h. c.requires k (omega arith))
