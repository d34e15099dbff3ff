use Rattle.std.proofs.Common.{◌≡◌, ◌+◌, ◌∙◌, take, drop, arith}
use Rattle.cv_world.specs.Private.Replying.{converted_message}
use Rattle.cv_world.proofs.WrittenFrames.{after_bytes, before_bytes}
use Rattle.cv_world.proofs.world.World.answer_into.Goals as goal

pub returns-in-Ok-clause-ok : goal.returns-in-Ok-clause-ok
returns-in-Ok-clause-ok g c =
    let d = c.in-Ok.ensures in
    let start = c.in_ok-start.start in
    let begun = c.in_ok-start.ensures.ok in
    let all = c.attempt_twice.new.output in
    let message = converted_message c.args.request.now c.in-Ok.o in
    let front : take start all ≡ c.args.replies.now =
    before_bytes c.begin.new.self d.0 all start (omega (arith, begun)) d.1 ∙ begun.2 in
    let output : drop (start + 21) all ≡ d.0 = after_bytes c.begin.new.self d.0 all (start + 21) begun.1 d.1 in (
      message d.0,
      d.3,
      rw (front, output) at c.finish_converted.ensures,
    )
