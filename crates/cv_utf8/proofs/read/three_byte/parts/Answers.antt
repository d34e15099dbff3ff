use Rattle.cv_utf8.proofs.Utf8Threes.{parts_are}
use Rattle.cv_utf8.proofs.read.three_byte.parts.Goals as goal

pub returns : goal.returns
returns c = parts_are c.args.text.now c.args.at c.type_inv.text
