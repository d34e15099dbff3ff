use Rattle.std.proofs.Common.{ap, arith}
use Rattle.std.proofs.lemmas.List.{drop_all}
use Rattle.cv_base.proofs.Front.{rest_is}
use Rattle.cv_pivot.specs.declared.step.Progress.{Progress}
use Rattle.cv_pivot.specs.Private.Steps.{nothing}
use Rattle.cv_pivot.proofs.RoomForTheMost.{counts_few}
use Rattle.cv_pivot.proofs.SeveralSteps.{reached_start, reached_more, stopped, finished}
use Rattle.cv_pivot.proofs.conversion.Conversion.convert.Goals as goal

pub steps-init : goal.steps-init
steps-init c = let a = c.args in
    reached_start _ _ a.self.now.policy a.input.now a.self.now.states nothing a.out.now
    (omega arith, omega arith, omega arith)

pub then-progress-requires : goal.then-progress-requires
then-progress-requires c = let r = c.assert_valid.ensures.readable in
    let s = (reached_more _ _ _ r _ _ _ _ _ _ _ c.steps.invariant _ _ _ (c.in-Some.ensures _)).within in
    record { read = omega (arith, s.0); written = omega (arith, s.1); replaced = omega (arith, s.0, s.2) }

pub steps-smaller-in-Some : goal.steps-smaller-in-Some
steps-smaller-in-Some c = let r = c.assert_valid.ensures.readable in
    let h = c.in-Some.ensures c.args.self.now.policy in
    let s = (reached_more _ _ _ r _ _ _ _ _ _ _ c.steps.invariant _ _ _ h).within in
    omega (arith, ap (λ (x : Progress). x.read) c.then-progress.ensures, h.some, s.0)

pub steps-preserved-in-Some : goal.steps-preserved-in-Some
steps-preserved-in-Some c = let r = c.assert_valid.ensures.readable in
    let h = c.in-Some.ensures c.args.self.now.policy in
    rw c.then-progress.ensures (reached_more _ _ _ r _ _ _ _ _ _ _ c.steps.invariant _ _ _ h)

pub then-progress-requires-in-Ok : goal.then-progress-requires-in-Ok
then-progress-requires-in-Ok c = let r = c.assert_valid.ensures.readable in
    let h = rw c.in_default.ensures at c.in-Ok.ensures in
    let s = (reached_more _ _ _ r _ _ _ _ _ _ _ c.steps.invariant _ _ _ h).within in
    record { read = omega (arith, s.0); written = omega (arith, s.1); replaced = omega (arith, s.0, s.2) }

pub steps-preserved : goal.steps-preserved
steps-preserved c = let r = c.assert_valid.ensures.readable in
    let h = rw c.in_default.ensures at c.in-Ok.ensures in
    rw c.then-progress-in-Ok.ensures (reached_more _ _ _ r _ _ _ _ _ _ _ c.steps.invariant _ _ _ h)

pub returns-then-progress-input-clause-converts : goal.returns-then-progress-input-clause-converts
returns-then-progress-input-clause-converts c = let r = c.assert_valid.ensures.readable in
    let done = drop_all _ c.args.input.now (omega (arith, c.if-progress-input.true)) in
    rw c.outcome.ensures (stopped _ _ _ r _ _ _ _ _ _ c.steps.invariant.advances _ done)

pub returns-then-rest-lt-FEW_BYTES-clause-converts : goal.returns-then-rest-lt-FEW_BYTES-clause-converts
returns-then-rest-lt-FEW_BYTES-clause-converts c = let h = rw c.in_default.ensures at c.last_step.ensures in
    finished _ _ _ c.assert_valid.ensures.readable _ _ _ _ _ _ c.steps.invariant.advances _ _ _ h

pub returns-then-rest-lt-FEW_BYTES-clause-few : goal.returns-then-rest-lt-FEW_BYTES-clause-few
returns-then-rest-lt-FEW_BYTES-clause-few c =
    counts_few _ _ _ c.assert_valid.ensures.readable _ _ _ _ _ _ (returns-then-rest-lt-FEW_BYTES-clause-converts c)

pub returns-in-Err-clause-converts : goal.returns-in-Err-clause-converts
returns-in-Err-clause-converts c = let r = c.assert_valid.ensures.readable in
    let h = rw (rest_is c.steps.progress.read c.args.input.now, c.in_default.ensures) at c.in-Err.ensures in
    rw (c.outcome-in-Err.ensures, h.1, h.2) (stopped _ _ _ r _ _ _ _ _ _ c.steps.invariant.advances _ h.0)
