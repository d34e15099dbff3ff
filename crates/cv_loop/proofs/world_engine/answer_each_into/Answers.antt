use Rattle.std.proofs.Common.{◌≡◌, ◌+◌, [], ◌∷◌, ◌++◌, take, sym, ap, ◌∙◌}
use Rattle.std.proofs.lemmas.List.{take_more}
use Rattle.cv_frame.specs.Message.{Message}
use Rattle.cv_world.specs.Requests.{turn}
use Rattle.cv_loop.proofs.Replying.{appends_none, appends_push, no_more_ran}
use Rattle.cv_loop.proofs.world_engine.answer_each_into.Goals as goal

pub loop-request-init : goal.loop-request-init
loop-request-init g c = appends_none turn _ _

pub loop-request-preserved : goal.loop-request-preserved
loop-request-preserved g c =
    let at = c.loop-request.request-index in
    let more : take (at + 1) c.args.requests.now ≡ take at c.args.requests.now ++ c.request-item.result ∷ [] =
    take_more c.args.requests.now at c.request-item.result c.loop-request-test.true
    ∙ ap (λ (m : Message). take at c.args.requests.now ++ m ∷ []) (sym c.request-item.is) in
    let step = c.in_ok-answer_into.ensures.ok in
    rw more (appends_push turn _ _ _ _ _ step.0 _ _ _ c.loop-request.invariant step.1 step.2)

pub returns-in_err-answer_into-clause-err : goal.returns-in_err-answer_into-clause-err
returns-in_err-answer_into-clause-err g c =
    let kept = c.in_err-answer_into.ensures.err in
    no_more_ran turn c.from_residual.result _ _ _ _ _ _ _ _ c.loop-request.invariant kept.0 kept.1
