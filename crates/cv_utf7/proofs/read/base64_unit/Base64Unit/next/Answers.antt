use Rattle.std.proofs.Common.{refl, arith}
use Rattle.cv_utf7.proofs.PartialUnits.{unit_0, unit_2, unit_4}
use Rattle.cv_utf7.proofs.read.base64_unit.Base64Unit.next.Goals as goal

pub returns-then-pending-eq4 : goal.returns-then-pending-eq4
returns-then-pending-eq4 c =
    unit_4 c.args.pending c.args.input.now _ c.if-pending-eq4.true (omega arith) c.in_ok-first.ensures.0
    c.in_ok-second.ensures.0 refl refl (omega (arith, c.in_ok-first.ensures.1, c.in_ok-second.ensures.1))

pub returns-then-pending-eq2 : goal.returns-then-pending-eq2
returns-then-pending-eq2 c = unit_2 c.args.pending c.args.input.now _ c.if-pending-eq2.true
    (omega arith) c.in_ok-first.ensures.0 c.in_ok-second.ensures.0 c.in_ok-eighteen.ensures.0 refl refl
    (omega (arith, c.in_ok-first.ensures.1, c.in_ok-second.ensures.1, c.in_ok-eighteen.ensures.1))
    (omega (arith, c.in_ok-first.ensures.1, c.in_ok-second.ensures.1, c.in_ok-eighteen.ensures.1))

pub returns : goal.returns
returns c = unit_0 c.args.pending c.args.input.now _ c.if-pending-eq4.false c.if-pending-eq2.false
    (omega arith) c.in_ok-first.ensures.0 c.in_ok-second.ensures.0 c.in_ok-eighteen.ensures.0 refl refl
    (omega (arith, c.in_ok-first.ensures.1, c.in_ok-second.ensures.1, c.in_ok-eighteen.ensures.1))
    (omega (arith, c.in_ok-first.ensures.1, c.in_ok-second.ensures.1, c.in_ok-eighteen.ensures.1))
