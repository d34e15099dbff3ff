use Rattle.cv_lex.specs.Mappings.{One, Range}
use Rattle.cv_charmap.specs.Private.Seen.{header_seen}
use Rattle.cv_charmap.proofs.ReaderSteps.{maps_inside}
use Rattle.cv_charmap.proofs.reading.take_inside.Goals as goal

pub returns-in-One : goal.returns-in-One
returns-in-One c =
    let entered = rw c.as_slice.ensures.value at (c.enter_sized_one-entered.ensures c.args.number) in
    rw c.in-One.is
    (maps_inside (header_seen c.args.header.now) c.args.pairs.now (One c.in-One.c c.in-One.bytes) c.args.number
    c.enter_sized_one-entered.result c.enter_sized_one-entered.new.pairs entered c.after.result c.after.ensures)

pub returns-in-Range : goal.returns-in-Range
returns-in-Range c =
    let entered = rw c.as_slice-in-Range.ensures.value at (c.enter_sized_range-entered.ensures c.args.number) in
    rw c.in-Range.is (maps_inside (header_seen c.args.header.now) c.args.pairs.now (Range
    c.in-Range.first c.in-Range.last c.in-Range.hex c.in-Range.bytes) c.args.number c.enter_sized_range-entered.result
    c.enter_sized_range-entered.new.pairs entered c.after-in-Range.result c.after-in-Range.ensures)
