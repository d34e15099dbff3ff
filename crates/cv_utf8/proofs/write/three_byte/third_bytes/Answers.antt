use Rattle.std.proofs.Common.{arith}
use Rattle.cv_utf8.proofs.Utf8Quads.{third_bytes_are}
use Rattle.cv_utf8.proofs.write.three_byte.third_bytes.Goals as goal

pub returns : goal.returns
returns c = third_bytes_are 16 c.args.units (omega arith)
