-- Two runs of the same requests give the same replies up to the first failed allocation in either.
use Rattle.std.proofs.Common.{◌≡◌, ℕ, List, [], ◌∷◌, ◌++◌, refl, sym, ap, subst, ◌∙◌, arith}
use Rattle.std.specs.List.{AllByRecursion}
use Rattle.std.proofs.lemmas.List.{append-nil}
use Rattle.cv_frame.specs.Cut.{messages_of, IsCut}
use Rattle.cv_frame.specs.Message.{Message, joined, FitsFrame}
use Rattle.cv_frame.proofs.Cuts.{cut_only, front_short}
use Rattle.cv_machine.specs.Machine.{Turn, IsOneAnswer, Event, requests, reply_to, replies_of, tables_after, IsRun}
use Rattle.cv_machine.specs.Machine.{NoneLacks, no_memory}
use Rattle.cv_loop.specs.Laws.{FirstServed}

-- joined frames are cut into these frames again
pub joined_are : (bytes : List ℕ) (ms : List Message) → bytes ≡ joined ms → AllByRecursion FitsFrame ms
    → messages_of bytes ≡ ms
joined_are bytes ms whole fits =
    let cut : IsCut bytes ms [] = record {
      whole = whole ∙ sym (append-nil (joined ms));
      fits = fits;
      ends = λ m n e. let f = front_short [] (omega arith) in cc;
    } in
    (cut_only bytes ms [] cut).0

module _ {Table : Type 0} (turn : Turn Table) (law : IsOneAnswer turn) where
  same_event : (e f : Event Table) → e.request ≡ f.request → e.outcome ≡ f.outcome → e ≡ f
  same_event e f request outcome = rw (request, outcome) refl

  first_events : (s : ℕ → Table) (es fs : List (Event Table)) (front untold : List Message) → IsRun turn s es
      → IsRun turn s fs → requests es ≡ requests fs → replies_of es ≡ front ++ untold → NoneLacks front
      → NoneLacks (replies_of fs) → (later : List Message) × (replies_of fs ≡ front ++ later)
  first_events s es fs [] untold p q asks tells some all = (replies_of fs, refl)
  first_events s [] fs (m ∷ front) untold p q asks tells some all = absurd cc
  first_events s (e ∷ es) [] (m ∷ front) untold p q asks tells some all = absurd cc
  first_events s (e ∷ es) (f ∷ fs) (m ∷ front) untold p q asks tells some all =
      let request : f.request ≡ e.request = cc in
      let others : requests es ≡ requests fs = cc in
      let told : reply_to e ≡ m = cc in
      let rest : replies_of es ≡ front ++ untold = cc in
      let code : e.outcome.code ≡ m.code = ap (λ (r : Message). r.code) told in
      let turned : turn (s e.request.caller) e.request.code e.request.body f.outcome =
      subst (λ (r : Message). turn (s r.caller) r.code r.body f.outcome) request q.0 in
      let same : f.outcome ≡ e.outcome = (law (s e.request.caller) e.request.code e.request.body).one f.outcome
      e.outcome turned p.0 all.0 (λ (x : e.outcome.code ≡ no_memory). some.0 (sym code ∙ x)) in
      let is : f ≡ e = same_event f e request same in
      let more = first_events (tables_after s e) es fs front untold p.1
      (subst (λ (x : Event Table). IsRun turn (tables_after s x) fs) is q.1) others rest some.1 all.1 in (
        more.0,
        ap (λ (r : Message). r ∷ replies_of fs) (ap reply_to is ∙ told) ∙ ap (λ (ms : List Message). m ∷ ms) more.1,
      )

  -- the whole replies that begin an answer are the first of those that are served
  pub first_served : FirstServed turn
  first_served s given written served begun none service =
      let answer = service.0 in
      let same : messages_of served ≡ replies_of answer.events =
      joined_are served (replies_of answer.events) answer.writes answer.fits in
      let first = first_events s begun.events answer.events (messages_of written) begun.untold begun.is_run
      answer.is_run (begun.asks ∙ sym answer.asks) begun.tells none (subst NoneLacks same service.1) in
      (first.0, same ∙ first.1)
