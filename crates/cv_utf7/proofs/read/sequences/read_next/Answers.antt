use Rattle.std.proofs.Common.{arith}
use Rattle.cv_base.specs.declared.state.ReadState.TheVariants as read
use Rattle.cv_base.proofs.Front.{rest_is}
use Rattle.cv_utf7.specs.Private.ReadSteps.{read_to}
use Rattle.cv_utf7.proofs.ReadSteps.{reads_none, character_more, shift_more, some_used}
use Rattle.cv_utf7.proofs.read.sequences.read_next.Goals as goal

pub overflow_add-result-in-Char : goal.overflow_add-result-in-Char
overflow_add-result-in-Char c = omega (
  arith,
  some_used c.args.input.now (read.Shifted c.args.pending) c.args.at _ c.requires.within
      (rw rest_is at c.in-Char.ensures),
)

pub overflow_add-result-in-Shift : goal.overflow_add-result-in-Shift
overflow_add-result-in-Shift c = omega (
  arith,
  some_used c.args.input.now (read.Shifted c.args.pending) c.args.at _ c.requires.within
      (rw rest_is at c.in-Shift.ensures),
)

pub returns-in-Char : goal.returns-in-Char
returns-in-Char c =
    let start = reads_none c.args.input.now (read_to (read.Shifted c.args.pending) c.args.at c.args.n) c.args.buffer.now
    c.requires.within (omega arith) in
    let some = some_used c.args.input.now (read.Shifted c.args.pending) c.args.at _ c.requires.within
    (rw rest_is at c.in-Char.ensures) in
    (character_more start c.requires.room _ _ _ c.in-Char.ensures, omega (arith, some))

pub returns-in-Shift : goal.returns-in-Shift
returns-in-Shift c =
    let start = reads_none c.args.input.now (read_to (read.Shifted c.args.pending) c.args.at c.args.n) c.args.buffer.now
    c.requires.within (omega arith) in
    let some = some_used c.args.input.now (read.Shifted c.args.pending) c.args.at _ c.requires.within
    (rw rest_is at c.in-Shift.ensures) in
    (shift_more start _ _ c.in-Shift.ensures, omega (arith, some))
