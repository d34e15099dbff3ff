use Rattle.cv_utf8.proofs.Utf8Marks.{three_marks}
use Rattle.cv_utf8.proofs.read.masks.three_byte_mask.Goals as goal

pub returns : goal.returns
returns c = three_marks c.args.input.now c.args.at c.among.result c.among-2.result c.among-high.result c.among-3.result
    c.three_high.result c.requires c.type_inv.input c.three_high.ensures.long c.three_high.ensures.bytes c.among.ensures
    c.among-2.ensures c.among-high.ensures c.among-3.ensures
