use Rattle.std.proofs.Common.{◌≡◌, ◌+◌, [], ◌∷◌, ◌++◌, take, sym, ap, ◌∙◌, arith}
use Rattle.std.proofs.lemmas.List.{take_more}
use Rattle.cv_frame.specs.Message.{Message}
use Rattle.cv_machine.proofs.Runs.{Runs-push}
use Rattle.cv_world.specs.Requests.{turn}
use Rattle.cv_loop.proofs.world_engine.answer_each.Goals as goal

pub loop-request-preserved : goal.loop-request-preserved
loop-request-preserved g c =
    let at = c.loop-request.request-index in
    let more : take (at + 1) c.args.requests.now ≡ take at c.args.requests.now ++ c.request-item.result ∷ [] =
    take_more c.args.requests.now at c.request-item.result c.loop-request-test.true
    ∙ ap (λ (m : Message). take at c.args.requests.now ++ m ∷ []) (sym c.request-item.is) in
    record {
      count = omega (arith, c.push_reserved.ensures.len, c.loop-request.invariant.count);
      room = omega (arith, c.push_reserved.ensures.capacity, c.loop-request.invariant.room);
      runs = rw (more, c.push_reserved.ensures.items)
          (Runs-push turn _ _ _ _ _ _ _ c.loop-request.invariant.runs c.answer-reply.ensures);
    }
