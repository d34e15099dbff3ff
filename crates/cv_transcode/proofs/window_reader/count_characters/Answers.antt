use Rattle.std.proofs.Common.{arith}
use Rattle.cv_transcode.proofs.Marks.{before_mark}
use Rattle.cv_transcode.proofs.window_reader.count_characters.Goals as goal

pub returns-clause-characters : goal.returns-clause-characters
returns-clause-characters c k h = before_mark c.args.units c.surrogates.result k (omega arith) c.requires (omega arith)
    c.surrogates.ensures (omega (arith, c.min.ensures, h)) (omega (arith, c.min.ensures, h))
