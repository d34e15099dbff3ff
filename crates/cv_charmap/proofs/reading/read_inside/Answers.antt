use Rattle.cv_charmap.specs.Private.Seen.{header_seen}
use Rattle.cv_charmap.proofs.ReaderSteps.{entered_inside}
use Rattle.cv_charmap.proofs.reading.read_inside.Goals as goal

pub returns-in-Some : goal.returns-in-Some
returns-in-Some c =
    let reading = rw c.marks-marks.ensures at c.in-Some.ensures.reading in
    entered_inside (header_seen c.args.header.now) c.args.pairs.now c.args.line.now _
    c.args.number c.enter_sized_one-entered.result c.enter_sized_one-entered.new.pairs c.after.result reading
    (c.enter_sized_one-entered.ensures c.args.number) c.after.ensures
