-- A request that is tried once more after an allocation failed.
use Rattle.std.proofs.Common.{◌≡◌, ◌∙◌, ℕ, List, Result, Err, ap, sym, subst, refl}
use Rattle.cv_caller.specs.Tables.{Table}
use Rattle.cv_frame.specs.Message.{Message}
use Rattle.cv_frame.specs.Status.{status_number}
use Rattle.cv_machine.specs.Machine.{with_table, no_memory, Steps, Outcome}
use Rattle.cv_world.specs.Requests.{turn}
use Rattle.cv_world.specs.Private.Replying.{Answers}
use Rattle.cv_world.specs.declared.serving.Small.{Small}
use Rattle.cv_world.specs.declared.stages.ConvOutcome.{ConvOutcome}
use Rattle.cv_world.proofs.Changes.{changes_only}
use Rattle.cv_world.proofs.OneAnswer.{one_answer}

-- a reply that says that an allocation failed changed no table
unchanged : (s t : ℕ → Table) (m r : Message) → Steps turn s m r t → r.code ≡ no_memory → t ≡ s
unchanged s t m r step lacks =
    let same : t m.caller ≡ s m.caller =
    ap (λ (o : Outcome Table). o.next) ((one_answer (s m.caller) m.code m.body).lacks _ step.turns lacks) in
    step.leaves ∙ ap (with_table s m.caller) same ∙ sym (changes_only s s m.caller (λ q e. refl))

-- The second reply answers the request as if it were the only one.
pub retried : (s t u : ℕ → Table) (m : Message) (x y z : List ℕ) (small : Small) (r : Result ConvOutcome Small)
    → Answers s t m x y (Err small) → status_number small.status ≡ no_memory → Answers t u m y z r → Answers s u m x z r
retried s t u m x y z small r first lacks second = subst (λ (w : List ℕ). Answers s u m w z r) first.0
    (subst (λ (f : ℕ → Table). Answers f u m y z r) (unchanged s t m _ first.1 lacks) second)
