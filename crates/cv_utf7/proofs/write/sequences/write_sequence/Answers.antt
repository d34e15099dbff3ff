use Rattle.std.proofs.Common.{arith}
use Rattle.cv_base.specs.declared.state.WriteState.TheVariants as write
use Rattle.cv_utf7.proofs.WriteSteps.{writes_more, writes_to}
use Rattle.cv_utf7.proofs.write.sequences.write_sequence.Goals as goal

pub returns-in-Shifted-clause-more : goal.returns-in-Shifted-clause-more
returns-in-Shifted-clause-more c =
    writes_more (writes_to (writes_more c.in_default.ensures c.write_one-first.ensures.one) (write.Shifted _)
    c.in-Shifted.is) c.write_inside.ensures.more

pub returns-then-first-characters-clause-more : goal.returns-then-first-characters-clause-more
returns-then-first-characters-clause-more c = writes_more c.in_default.ensures c.write_one-first.ensures.one

pub returns-in_default-next : goal.returns-in_default-next
returns-in_default-next c =
    record { more = writes_more c.in_default.ensures c.write_one-first.ensures.one; on = omega arith }
