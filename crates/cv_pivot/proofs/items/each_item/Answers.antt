use Rattle.std.proofs.Common.{ap, refl, arith}
use Rattle.std.proofs.lemmas.List.{drop_all}
use Rattle.cv_base.proofs.Front.{rest_is}
use Rattle.cv_pivot.specs.declared.step.Progress.{Progress}
use Rattle.cv_pivot.proofs.Progress.{some_of_one}
use Rattle.cv_pivot.proofs.SeveralSteps.{reached_start, reached_more}
use Rattle.cv_pivot.proofs.items.each_item.Goals as goal

pub items-init : goal.items-init
items-init g c = reached_start _ _ c.args.pair.policy c.args.input.now c.args.states.now c.args.start _ c.requires

pub then-progress-requires : goal.then-progress-requires
then-progress-requires g c = let r = c.assert_valid.ensures.readable in
    let h = some_of_one _ _ _ r _ _ _ _ _ _ _ c.in-Ok.ensures in
    let s = (reached_more _ _ _ r _ _ _ _ _ _ _ c.items.invariant _ _ _ h).within in
    record { read = omega (arith, s.0); written = omega (arith, s.1); replaced = omega (arith, s.0, s.2) }

pub items-smaller : goal.items-smaller
items-smaller g c = let r = c.assert_valid.ensures.readable in
    let h = some_of_one _ _ _ r _ _ _ _ _ _ _ c.in-Ok.ensures in
    let s = (reached_more _ _ _ r _ _ _ _ _ _ _ c.items.invariant _ _ _ h).within in
    omega (arith, ap (λ (x : Progress). x.read) c.then-progress.ensures, h.some, s.0)

pub items-preserved : goal.items-preserved
items-preserved g c = let r = c.assert_valid.ensures.readable in
    let h = some_of_one _ _ _ r _ _ _ _ _ _ _ c.in-Ok.ensures in
    rw c.then-progress.ensures (reached_more _ _ _ r _ _ _ _ _ _ _ c.items.invariant _ _ _ h)

pub returns-then-progress-input : goal.returns-then-progress-input
returns-then-progress-input g c = let r = c.assert_valid.ensures.readable in
    let h = some_of_one _ _ _ r _ _ _ _ _ _ _ c.in-Ok.ensures in
    let next = (reached_more _ _ _ r _ _ _ _ _ _ _ c.items.invariant _ _ _ h).advances in
    let done = drop_all _ c.args.input.now (omega (arith, c.if-progress-input.true)) in
    let advances = rw (← c.then-progress.ensures) at next in
    rw c.outcome.ensures (record { end = _; advances = advances; stops = done; outcome_is = refl })

pub returns-in-Err : goal.returns-in-Err
returns-in-Err g c = let h = rw (rest_is c.items.progress.read c.args.input.now) at c.in-Err.ensures in
    let advances = c.items.invariant.advances in
    rw (c.outcome-in-Err.ensures, h.1, h.2) (record { end = _; advances = advances; stops = h.0; outcome_is = refl })
