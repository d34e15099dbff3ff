use Rattle.std.proofs.Common.{◌≡◌, ◌+◌, ◌%◌, [], ◌∷◌, ◌++◌, take, get_or, sym, ap, ◌∙◌, arith}
use Rattle.std.proofs.lemmas.List.{take_more}
use Rattle.cv_world.specs.Requests.{turn}
use Rattle.cv_loop.proofs.Replying.{appends_push, no_more_ran}
use Rattle.cv_pool.specs.declared.shard.Shard.{Shard}
use Rattle.cv_pool.proofs.Shards.{shard_step, shard_stays}
use Rattle.cv_pool.proofs.sequential.answer_sequentially_into.Goals as goal

pub loop-request-preserved : goal.loop-request-preserved
loop-request-preserved g c =
    let at = c.loop-request.request-index in
    let asked = c.args.job.now.requests.now in
    let m = c.request-item.result in
    let shards = c.loop-request.shards in
    let number = c.shard_of-number.result in
    let d = c.index-shards-number.result in
    let new : Shard = record { world = c.answer_into.new.self; replies = (get_or shards number d).replies } in
    let more : take (at + 1) asked ≡ take at asked ++ m ∷ [] = take_more asked at m c.loop-request-test.true
    ∙ ap (λ q. take at asked ++ q ∷ []) (sym c.request-item.is) in
    let place : number ≡ m.caller % c.args.job.now.workers.count =
    c.shard_of-number.ensures.is ∙ ap (λ q. q.caller % c.args.job.now.workers.count) c.request.view_is in
    let step = c.in_default.ensures.ok in
    rw more (appends_push turn _ _ _ _ _ step.0 _ _ _ c.loop-request.invariant
    (shard_step _ shards number d new m step.0 (c.loop-request.auto.shards ∙ c.requires.count) place
    c.shard_of-number.ensures.there step.1) step.2)

pub returns-in-Err-clause-err : goal.returns-in-Err-clause-err
returns-in-Err-clause-err g c =
    let shards = c.loop-request.shards in
    let number = c.shard_of-number.result in
    let d = c.index-shards-number.result in
    let new : Shard = record { world = c.answer_into.new.self; replies = (get_or shards number d).replies } in
    rw c.in-Err.is at (no_more_ran turn c.answer_into.result _ _ _ _ _ _ _ _ c.loop-request.invariant (shard_stays
    shards number d new (omega (arith, c.loop-request.auto.shards, c.requires.count, c.shard_of-number.ensures.there))
    c.in-Err.ensures.err.0) c.in-Err.ensures.err.1)
