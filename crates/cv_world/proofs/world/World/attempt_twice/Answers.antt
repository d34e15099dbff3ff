use Rattle.std.proofs.Common.{Ok, Err, ap, rules, ◌∙◌}
use Rattle.cv_frame.specs.Status.{status_number}
use Rattle.cv_world.specs.Actions.{asked, Conv}
use Rattle.cv_world.specs.Worlds.{world_tables}
use Rattle.cv_world.proofs.Answered.{replied}
use Rattle.cv_world.proofs.Replying.{small, other_op}
use Rattle.cv_world.proofs.Retried.{retried}
use Rattle.cv_world.proofs.world.World.attempt_twice.Goals.{in-Conv+in-Err, in_default}
use Rattle.cv_world.proofs.world.World.attempt_twice.Goals as goal

pub loop-number-init : goal.loop-number-init
loop-number-init g c = record { answers = λ next after result a. a }

pub returns-in-Ok : goal.returns-in-Ok
returns-in-Ok g c = c.loop-number.invariant.answers (world_tables c.conv_output.new.self) c.conv_output.new.output
    (Ok c.in-Ok.written) (search rules)

pub small_of-small-requires : goal.small_of-small-requires
small_of-small-requires g c = elim c.match-read.branch [
  | in-Conv+in-Err w ↦ rw w.answer-is tt
  | in_default w ↦ rw w.answer-is (small _ (asked c.read.result) _ w.step_small-answer.result
      (other_op c.read.result w.in_default.not-Conv) w.step_small-answer.ensures.acts)
]

pub returns-then-retries_left-eq0 : goal.returns-then-retries_left-eq0
returns-then-retries_left-eq0 g c =
    let reply = replied (world_tables c.loop-number.self) (world_tables c.match-read.self) _ c.args.request.now
    c.loop-number.output c.match-read.output c.match-read.answer c.small_of-small.result c.request.view_is
    (search rules) (search rules) c.small_of-small.ensures.status c.small_of-small.ensures.body
    c.small_of-small.ensures.few in
    c.loop-number.invariant.answers (world_tables c.match-read.self) c.match-read.output (Err c.small_of-small.result)
    (elim c.match-read.branch [
      | in-Conv+in-Err w ↦ reply (Conv w.in-Conv.number w.in-Conv.room w.in-Conv.input.now)
          (w.output-is ∙ w.in-Err.ensures.refused.0) w.in-Conv.ensures.asks
          (rw (w.self-is, w.answer-is) w.in-Err.ensures.refused.1) (rw w.self-is w.conv_output.ensures.others)
      | in_default w ↦ reply (asked c.read.result) w.output-is c.read.ensures.asks
          (rw (w.self-is, w.answer-is) w.step_small-answer.ensures.acts)
          (rw w.self-is w.step_small-answer.ensures.others)
    ])

pub loop-number-preserved : goal.loop-number-preserved
loop-number-preserved g c =
    let reply = replied (world_tables c.loop-number.self) (world_tables c.match-read.self) _ c.args.request.now
    c.loop-number.output c.match-read.output c.match-read.answer c.small_of-small.result c.request.view_is
    (search rules) (search rules) c.small_of-small.ensures.status c.small_of-small.ensures.body
    c.small_of-small.ensures.few in
    record {
      answers = λ next after result a. c.loop-number.invariant.answers next after result
          (retried (world_tables c.loop-number.self) (world_tables c.match-read.self) next c.args.request.now
          c.loop-number.output c.match-read.output after c.small_of-small.result result (elim c.match-read.branch [
            | in-Conv+in-Err w ↦ reply (Conv w.in-Conv.number w.in-Conv.room w.in-Conv.input.now)
                (w.output-is ∙ w.in-Err.ensures.refused.0) w.in-Conv.ensures.asks
                (rw (w.self-is, w.answer-is) w.in-Err.ensures.refused.1) (rw w.self-is w.conv_output.ensures.others)
            | in_default w ↦ reply (asked c.read.result) w.output-is c.read.ensures.asks
                (rw (w.self-is, w.answer-is) w.step_small-answer.ensures.acts)
                (rw w.self-is w.step_small-answer.ensures.others)
          ]) (ap status_number (c.lacks_memory.ensures c.if-not-lacks_memory.false)) a);
    }
