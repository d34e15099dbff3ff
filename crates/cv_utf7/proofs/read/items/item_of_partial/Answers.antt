use Rattle.std.proofs.Common.{arith}
use Rattle.cv_utf7.proofs.GrownDigits.{half_stop, half_above, half_below, half_short}
use Rattle.cv_utf7.proofs.read.items.item_of_partial.Goals as goal

pub returns-then-partial-rest : goal.returns-then-partial-rest
returns-then-partial-rest c =
    let e = c.split_at.ensures.back in
    half_stop c.args.pending c.args.input.now c.args.high _ _ _ c.requires.unit
    (omega arith) (omega arith) (rw e at c.of-partial.ensures.partial) (rw e at c.if-partial-rest.true)
    (rw e at (c.of-partial.ensures.stop c.if-partial-rest.true))

pub returns-then-from-ge57344 : goal.returns-then-from-ge57344
returns-then-from-ge57344 c =
    let e = c.split_at.ensures.back in
    half_above c.args.pending c.args.input.now c.args.high _ _ _ _ c.requires.unit (omega arith) (omega arith)
    (rw e at c.of-partial.ensures.partial) c.range-from.ensures.from c.if-from-ge57344.true

pub returns-then-to-le56320 : goal.returns-then-to-le56320
returns-then-to-le56320 c =
    let e = c.split_at.ensures.back in
    half_below c.args.pending c.args.input.now c.args.high _ _ _ _ c.requires.unit (omega arith) (omega arith)
    (rw e at c.of-partial.ensures.partial) c.range-from.ensures.to c.if-to-le56320.true

pub returns : goal.returns
returns c =
    let e = c.split_at.ensures.back in
    half_short c.args.pending c.args.input.now c.args.high _ _ _ _ _ c.requires.unit (omega arith) (omega arith)
    (rw e at c.of-partial.ensures.partial) (rw e at c.if-partial-rest.false) c.range-from.ensures.from
    c.range-from.ensures.to c.if-from-ge57344.false c.if-to-le56320.false
