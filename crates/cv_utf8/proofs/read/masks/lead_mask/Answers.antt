use Rattle.cv_utf8.proofs.Utf8Marks.{among_lt}
use Rattle.cv_utf8.proofs.Utf8WindowLanes.{beginning_at}
use Rattle.cv_utf8.proofs.read.masks.lead_mask.Goals as goal

pub returns-clause-few : goal.returns-clause-few
returns-clause-few c = among_lt c.args.input.now c.args.at 0xc0 0xc0 c.among.result c.requires c.among.ensures

pub returns-clause-bits : goal.returns-clause-bits
returns-clause-bits c k h =
    beginning_at c.args.input.now c.args.at c.among.result k c.requires c.type_inv.input c.among.ensures h
