use Rattle.std.proofs.Common.{arith}
use Rattle.cv_lex.proofs.Digits.{fits}
use Rattle.cv_lex.proofs.plain.number_at.Goals as goal

pub overflow_mul-number : goal.overflow_mul-number
overflow_mul-number c = omega
    (arith, fits 16 c.loop-n.number 0 c.loop-n.n (omega arith) (omega arith) c.loop-n.invariant.small (omega arith))

pub overflow_add-number : goal.overflow_add-number
overflow_add-number c = omega (
  arith,
  fits 16 c.loop-n.number c.digit-value.result c.loop-n.n (omega arith) (omega arith) c.loop-n.invariant.small
      (omega arith),
)
