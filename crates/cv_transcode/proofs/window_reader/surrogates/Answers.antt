use Rattle.std.proofs.Common.{arith}
use Rattle.cv_transcode.proofs.Marks.{marks_are}
use Rattle.cv_transcode.proofs.window_reader.surrogates.Goals as goal

pub returns : goal.returns
returns c = marks_are c.args.units (omega arith)
