use Rattle.cv_utf7.proofs.FewDigits.{few_ill, few_low}
use Rattle.cv_utf7.proofs.GrownDigits.{few_below, few_above}
use Rattle.cv_utf7.proofs.read.items.item_of_few.Goals as goal

pub returns-then-partial-ne0 : goal.returns-then-partial-ne0
returns-then-partial-ne0 c = few_ill c.args.pending c.args.input.now _ _ _ c.of-partial.ensures.partial
    c.if-partial-input.true (c.of-partial.ensures.stop c.if-partial-input.true) c.if-partial-ne0.true

pub returns-then-from-lt56320 : goal.returns-then-from-lt56320
returns-then-from-lt56320 c = few_below c.args.pending c.args.input.now _ _ _ _ c.of-partial.ensures.partial
    c.if-partial-input.false c.requires.some c.range-from.ensures.from c.if-from-lt56320.true

pub returns-then-to-gt57344 : goal.returns-then-to-gt57344
returns-then-to-gt57344 c = few_above c.args.pending c.args.input.now _ _ _ _ c.of-partial.ensures.partial
    c.if-partial-input.false c.requires.some c.range-from.ensures.to c.range-from.ensures.bound c.if-to-gt57344.true

pub returns : goal.returns
returns c = few_low c.args.pending c.args.input.now _ _ _ _ _ c.of-partial.ensures.partial c.if-partial-input.false
    c.requires.some c.range-from.ensures.from c.range-from.ensures.to c.if-from-lt56320.false c.if-to-gt57344.false
