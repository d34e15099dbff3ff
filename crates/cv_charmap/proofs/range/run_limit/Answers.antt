use Rattle.std.proofs.Common.{◌+◌, arith}
use Rattle.cv_charmap.proofs.range.run_limit.Goals as goal

pub returns-clause-scalars : goal.returns-clause-scalars
returns-clause-scalars c k less = c.end_of.ensures.scalars (c.args.character + k) (omega arith) (omega (
  arith,
  less,
  c.min.ensures,
  c.min-limit.ensures,
  c.from.ensures,
  c.from-2.ensures,
  c.value.ensures.number,
  c.end_of.ensures.above,
))
