use Rattle.cv_loop.proofs.Replying.{nothing_ran, pushed_some}
use Rattle.cv_loop.proofs.engine.Engine.batch_into.Goals as goal

pub returns-in_err-told-clause-err : goal.returns-in_err-told-clause-err
returns-in_err-told-clause-err g c =
    nothing_ran g.Self.Machine.turn c.from_residual.result _ _ _ _ c.in_err-told.ensures.err

pub returns-clause-err : goal.returns-clause-err
returns-clause-err g c =
    let runs = c.in_ok-told.ensures.runs in
    pushed_some g.Self.Machine.turn c.push_each.result _ _ _ c.deref.result.now _ _
    (rw c.deref.ensures.value runs) c.push_each.ensures.err
