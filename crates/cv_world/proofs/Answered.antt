-- One request is answered by a turn of its caller's table.
use Rattle.std.proofs.Common.{◌≡◌, ◌≤◌, ◌<◌, ◌^◌, ℕ, List, length, Err, ap, refl, arith}
use Rattle.cv_caller.specs.Tables.{Table}
use Rattle.cv_frame.specs.Message.{Message, FitsFrame}
use Rattle.cv_machine.specs.Machine.{with_table, Steps}
use Rattle.cv_world.specs.Actions.{Action}
use Rattle.cv_world.specs.Answers.{answer_code, answer_body, answer_status}
use Rattle.cv_world.specs.Private.Replying.{Answers}
use Rattle.cv_world.specs.Requests.{Asks, turn}
use Rattle.cv_world.specs.Turn.{Acts}
use Rattle.cv_world.specs.declared.answer.Answer.{Answer}
use Rattle.cv_world.specs.declared.serving.Small.{Small}
use Rattle.cv_world.proofs.Replying.{fits_frame}

-- The reply of a step is a step of the machine.
pub stepped : (s t : ℕ → Table) (m r : Message) (action : Action) (answer : Answer) → Asks (s m.caller).part m.code
    m.body action → Acts (s m.caller) action (t m.caller) answer → t ≡ with_table s m.caller (t m.caller)
    → r ≡ record { caller = m.caller; tag = m.tag; code = answer_code answer; body = answer_body answer } → FitsFrame r
    → Steps turn s m r t
stepped s t m r action answer asks acts others is fits =
    record {
      caller = ap (λ (x : Message). x.caller) is;
      tag = ap (λ (x : Message). x.tag) is;
      fits = fits;
      turns = record {
        action = action;
        asks = asks;
        answer = answer;
        acts = acts;
        code_is = ap (λ (x : Message). x.code) is;
        body_is = ap (λ (x : Message). x.body) is;
      };
      leaves = others;
    }

-- A small reply to the request m, which is seen as r.
pub replied : (s t : ℕ → Table) (r m : Message) (x y : List ℕ) (answer : Answer) (small : Small) → r ≡ m
    → r.caller < 2 ^ 32 → r.tag < 2 ^ 32 → small.status ≡ answer_status answer → small.body ≡ answer_body answer
    → length small.body ≤ 8 → (action : Action) → y ≡ x → Asks (s m.caller).part m.code m.body action
    → Acts (s r.caller) action (t r.caller) answer → t ≡ with_table s r.caller (t r.caller)
    → Answers s t m x y (Err small)
replied s t r m x y answer small seen caller tag status body few action same asks acts others = (
  same,
  rw (← seen) (stepped s t r _ action answer (rw seen asks) acts others (rw (status, body) refl)
      (fits_frame _ _ small.status small.body caller tag (omega (arith, few)))),
)
