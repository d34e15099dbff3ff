use Rattle.std.proofs.Common.{◌≡◌, rules}
use Rattle.cv_pivot.proofs.DirectSteps.{fast_step_takes}
use Rattle.cv_pivot.proofs.convert.take_at_once.Goals as goal

pub returns-then-eq : goal.returns-then-eq
returns-then-eq c =
    let h = rw c.in_ok-from.ensures at c.copy_step.ensures in
    let same : c.in_ok-from.from ≡ c.in_ok-to.to = search rules in
    rw (c.in_ok-from.ensures, c.in_ok-to.ensures, ← same) h

pub returns : goal.returns
returns c =
    let path = c.in_ok-path in
    rw (c.in_ok-from.ensures, c.in_ok-to.ensures) (fast_step_takes path.path _ _ c.args.states.now path.ensures.0
    path.ensures.1 c.args.rest.now c.args.out.now c.args.at _ (λ k. (c.type_inv.rest k).fits)
    (λ k. (c.type_inv.out k).fits) _ c.fast_step.ensures)
