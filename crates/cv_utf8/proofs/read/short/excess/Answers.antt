use Rattle.cv_utf8.proofs.Utf8ShortLanes.{excess_size, excess_short}
use Rattle.cv_utf8.proofs.read.short.excess.Goals as goal

pub returns-clause-long : goal.returns-clause-long
returns-clause-long c = excess_size c.args.firsts c.args.input.now c.args.at c.requires.within

pub returns-clause-lanes : goal.returns-clause-lanes
returns-clause-lanes c k h e = (excess_short c.args.firsts c.args.input.now c.args.at k c.requires.few c.requires.within
    c.type_inv.input h e).0

pub returns-clause-most : goal.returns-clause-most
returns-clause-most c k h e = (excess_short c.args.firsts c.args.input.now c.args.at k c.requires.few c.requires.within
    c.type_inv.input h e).1
