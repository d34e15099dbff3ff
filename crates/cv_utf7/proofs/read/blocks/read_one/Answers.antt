use Rattle.std.proofs.Common.{arith}
use Rattle.cv_base.proofs.Front.{rest_is}
use Rattle.cv_utf7.proofs.ReadSteps.{reads_character, reads_shift, some_used}
use Rattle.cv_utf7.proofs.read.blocks.read_one.Goals as goal

pub overflow_add-result-in-Char : goal.overflow_add-result-in-Char
overflow_add-result-in-Char c = omega (
  arith,
  some_used c.args.input.now c.args.from.next c.args.from.used _ c.requires.within (rw rest_is at c.in-Char.ensures),
)

pub overflow_add-result-in-Shift : goal.overflow_add-result-in-Shift
overflow_add-result-in-Shift c = omega (
  arith,
  some_used c.args.input.now c.args.from.next c.args.from.used _ c.requires.within (rw rest_is at c.in-Shift.ensures),
)

pub returns-in-Char-clause-one : goal.returns-in-Char-clause-one
returns-in-Char-clause-one c = (
  reads_character _ _ c.args.buffer.now _ _ _ c.requires.within (omega arith) (rw rest_is at c.in-Char.ensures),
  omega (
    arith,
    some_used c.args.input.now c.args.from.next c.args.from.used _ c.requires.within (rw rest_is at c.in-Char.ensures),
  ),
)

pub returns-in-Shift-clause-one : goal.returns-in-Shift-clause-one
returns-in-Shift-clause-one c = (
  reads_shift _ _ c.args.buffer.now _ _ c.requires.within c.requires.room (rw rest_is at c.in-Shift.ensures),
  omega (
    arith,
    some_used c.args.input.now c.args.from.next c.args.from.used _ c.requires.within (rw rest_is at c.in-Shift.ensures),
  ),
)
