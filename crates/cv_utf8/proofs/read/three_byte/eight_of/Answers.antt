use Rattle.cv_utf8.proofs.Utf8Threes.{odd_small, eight_are}
use Rattle.cv_utf8.proofs.read.three_byte.eight_of.Goals as goal

pub numbers_of-requires : goal.numbers_of-requires
numbers_of-requires c k h = odd_small c.args.text.now c.args.at c.parts.result c.parts-2.result k c.type_inv.text
    c.parts.ensures c.parts-2.ensures h

pub returns-clause-numbers : goal.returns-clause-numbers
returns-clause-numbers c = eight_are c.args.text.now c.args.at c.parts.result c.parts-2.result c.numbers_of.result
    c.type_inv.text c.parts.ensures c.parts-2.ensures c.numbers_of.ensures.numbers
