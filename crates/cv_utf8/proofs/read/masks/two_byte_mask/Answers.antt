use Rattle.cv_utf8.proofs.Utf8Marks.{two_marks}
use Rattle.cv_utf8.proofs.read.masks.two_byte_mask.Goals as goal

pub returns : goal.returns
returns c = two_marks c.args.input.now c.args.at c.among-firsts.result c.among.result c.requires c.type_inv.input
    c.among-firsts.ensures c.among.ensures
