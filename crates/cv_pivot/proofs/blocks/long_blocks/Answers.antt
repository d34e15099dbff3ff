use Rattle.std.proofs.Common.{◌∙◌, arith}
use Rattle.cv_base.proofs.Front.{rest_is}
use Rattle.cv_pivot.proofs.Progress.{takes_within}
use Rattle.cv_pivot.proofs.SeveralSteps.{takes_more, takes_none, takes_nothing}
use Rattle.cv_pivot.proofs.blocks.long_blocks.Goals as goal
use Rattle.cv_pivot.proofs.blocks.long_blocks.Goals.{then-loop-blocks-test+else-rest-progress-ge-LONG_BLOCK}
use Rattle.cv_pivot.proofs.blocks.long_blocks.Goals.{else-loop-blocks-test}
use Rattle.cv_pivot.proofs.blocks.long_blocks.Goals.{then-loop-blocks-test+then-rest-progress-ge-LONG_BLOCK+in_default}

pub loop-blocks-init : goal.loop-blocks-init
loop-blocks-init g c = let a = c.args in
    takes_none _ _ a.pair.policy a.states.now a.rest.now a.out.now a.at c.requires.room

pub overflow_sub-rest : goal.overflow_sub-rest
overflow_sub-rest g c = let r = c.assert_valid.ensures.readable in
    (takes_within _ _ c.args.pair.policy r _ _ _ _ _ _ _ c.loop-blocks.invariant).0

pub then-progress-requires : goal.then-progress-requires
then-progress-requires g c = let h = rw (rest_is c.loop-blocks.progress.read c.args.rest.now) at c.in-Ok.ensures.ok in
    let next = takes_more _ _ c.args.pair.policy _ _ _ _ _ _ _ c.loop-blocks.invariant _ _ _ h.takes in
    let s = takes_within _ _ c.args.pair.policy c.assert_valid.ensures.readable _ _ _ _ _ _ _ next in
    record { read = omega (arith, s.0); written = omega (arith, s.1); replaced = omega (arith, s.0, s.2) }

pub loop-blocks-preserved : goal.loop-blocks-preserved
loop-blocks-preserved g c = let h = rw (rest_is c.loop-blocks.progress.read c.args.rest.now) at c.in-Ok.ensures.ok in
    rw c.then-progress.ensures (takes_more _ _ c.args.pair.policy _ _ _ _ _ _ _ c.loop-blocks.invariant _ _ _ h.takes)

pub returns-then-progress-eq0-clause-err : goal.returns-then-progress-eq0-clause-err
returns-then-progress-eq0-clause-err g c = let r = c.assert_valid.ensures.readable in
    let none = c.if-progress-eq0.true in
    let h = takes_nothing _ _ c.args.pair.policy r _ _ _ _ _ _ _ c.loop-blocks.invariant none in
    elim c.loop-blocks-test.branch [
      | then-loop-blocks-test+else-rest-progress-ge-LONG_BLOCK w ↦ (w.states-is ∙ h.0, w.out-is ∙ h.1)
      | else-loop-blocks-test w ↦ (w.states-is ∙ h.0, w.out-is ∙ h.1)
      | then-loop-blocks-test+then-rest-progress-ge-LONG_BLOCK+in_default w ↦
          (w.states-is ∙ w.in_default.ensures.err.0 ∙ h.0, w.out-is ∙ w.in_default.ensures.err.1 ∙ h.1)
    ]
