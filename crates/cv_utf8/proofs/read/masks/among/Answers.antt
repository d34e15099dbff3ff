use Rattle.std.proofs.Common.{arith}
use Rattle.cv_utf8.proofs.Utf8Short.{among_is}
use Rattle.cv_utf8.proofs.read.masks.among.Goals as goal

pub returns : goal.returns
returns c = among_is c.args.bytes c.args.least c.args.many (omega arith)
