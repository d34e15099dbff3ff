use Rattle.std.proofs.Common.{◌≡◌, arith}
use Rattle.cv_lex.specs.Lines.{lines_of}
use Rattle.cv_charmap.specs.Private.Runs.{next_number}
use Rattle.cv_charmap.specs.Private.Seen.{state_seen, header_seen}
use Rattle.cv_charmap.proofs.ReaderSteps.{stops, ends, ends_behind}
use Rattle.cv_charmap.proofs.reader.read.Goals as goal

pub returns-in-Err-read_next : goal.returns-in-Err-read_next
returns-in-Err-read_next c =
    let state = c.loop-line.state in
    let number : c.saturating_add-number.result ≡ next_number c.loop-line.number =
    omega (arith, c.saturating_add-number.ensures) in
    let next = rw c.in-Err-read_next.is at (c.read_next.ensures c.loop-line.number number) in
    stops (lines_of c.args.text.now) (lines_of c.loop-line.line-iterator) (lines_of c.next.new.self)
    (state_seen state.header c.loop-line.pairs state.phase c.loop-line.number) c.in-Some.line.now
    c.in-Err-read_next.fault c.read_next.new.pairs c.loop-line.invariant c.in-Some.ensures.steps next

pub returns-in-Behind : goal.returns-in-Behind
returns-in-Behind c =
    let state = c.loop-line.state in
    let after = c.read_next.new.state in
    let number : c.saturating_add-number.result ≡ next_number c.loop-line.number =
    omega (arith, c.saturating_add-number.ensures) in
    let next = c.in-Ok-read_next.ensures c.loop-line.number number in
    ends_behind (lines_of c.args.text.now) (lines_of c.loop-line.line-iterator) (lines_of c.next.new.self)
    (state_seen state.header c.loop-line.pairs state.phase c.loop-line.number) c.in-Some.line.now
    (header_seen after.header) c.read_next.new.pairs (next_number c.loop-line.number) after.phase c.finish.result
    c.loop-line.invariant c.in-Some.ensures.steps next c.in-Behind.is c.finish.ensures

pub returns : goal.returns
returns c =
    let state = c.loop-line.state in
    ends (lines_of c.args.text.now) (lines_of c.loop-line.line-iterator) (header_seen state.header) c.loop-line.pairs
    state.phase c.loop-line.number c.finish-2.result c.loop-line.invariant c.in-None.ensures.steps.0 c.finish-2.ensures
