-- Several steps one after the other.
use Rattle.std.proofs.Common.{◌≡◌, ℕ, ◌+◌, ◌-◌, ◌≤◌, List, [], ◌∷◌, ◌++◌, length, take, drop, refl, sym, ◌∙◌, ap}
use Rattle.std.proofs.Common.{subst, arith}
use Rattle.std.proofs.Common.{length-append, length-drop, length-take, append_assoc, append-nil, add-zero, add_assoc}
use Rattle.std.proofs.Common.{zero-add}
use Rattle.std.proofs.Common.{take-append-drop, Ok, Err, Result}
use Rattle.std.proofs.lemmas.List.{drop-drop}
use Rattle.cv_base.specs.Items.{Taken, ItemRelation}
use Rattle.cv_base.specs.Codecs.{Writing, IsReadable}
use Rattle.cv_base.specs.declared.policy.Policy.{Policy}
use Rattle.cv_base.specs.declared.state.ReadState.{ReadState}
use Rattle.cv_base.specs.declared.state.WriteState.{WriteState}
use Rattle.cv_base.specs.Chains.{IsChain, used_bytes, read_state, Output, output, followed, output_of}
use Rattle.cv_base.specs.Policies.{Allows}
use Rattle.cv_pivot.specs.declared.outcome.Outcome.{Outcome}
use Rattle.cv_pivot.specs.declared.outcome.States.{States}
use Rattle.cv_pivot.specs.declared.outcome.Stop.{Stop}
use Rattle.cv_pivot.specs.declared.step.Progress.{Progress}
use Rattle.cv_pivot.specs.Conversions.{Converts}
use Rattle.cv_pivot.specs.Private.Steps.{nothing, plus, IsWithin, outcome_of, Takes, TakesSome, TakesOrStops}
use Rattle.cv_pivot.specs.Private.Steps.{StridesOrStops, StepStops, Advances, Finishes}
use Rattle.cv_base.proofs.AllWritten.{none_allowed}
use Rattle.cv_base.proofs.Front.{rest_is, stands_within}
use Rattle.cv_base.proofs.WrittenEach.{out_more}
use Rattle.cv_base.proofs.ChainLaws.{used_bytes-append, read_state-append, output_of-append, IsChain-append}
use Rattle.cv_pivot.proofs.Allowed.{followed_allowed}
use Rattle.cv_pivot.proofs.Progress.{some_of_one, takes_within, takes_stopped}

no_chain : (reads : ItemRelation) → IsReadable reads → (s : ReadState) (text : List ℕ) (chain : List Taken)
    → IsChain reads s text chain → used_bytes chain ≡ 0 → chain ≡ []
no_chain reads r s text [] p e = refl
no_chain reads r s text (i ∷ chain) p e = absurd (omega (arith, e, stands_within reads r s text i p.0))

module _ (reads : ItemRelation) (writes : Writing) (policy : Policy) where
  -- at first no item is taken
  pub takes_none : (from : States) (rest before : List ℕ) (at : ℕ) → at ≤ length before
      → Takes reads writes policy from rest before at nothing from before
  takes_none from rest before at h = record {
    chain = [];
    is_chain = tt;
    allowed = none_allowed policy (output [] 0 from.writing) refl;
    uses = refl;
    reading = refl;
    counts = refl;
    writing = refl;
    writes_bytes = refl;
    fits = omega arith;
    out = rw (add-zero, append-nil) (sym (take-append-drop at before));
  }

  -- items are taken, and after them others
  pub takes_more : (from : States) (rest before : List ℕ) (at : ℕ) (taken : Progress) (now : States) (out : List ℕ)
      → Takes reads writes policy from rest before at taken now out → (step : Progress) (to : States) (after : List ℕ)
      → Takes reads writes policy now (drop taken.read rest) out (at + taken.written) step to after
      → Takes reads writes policy from rest before at (plus taken step) to after
  takes_more from rest before at taken now out p step to after q = let o = output_of writes from.writing p.chain in
      let v = output_of writes o.next q.chain in
      let new = p.chain ++ q.chain in
      let more : IsChain reads (read_state from.reading p.chain) (drop (used_bytes p.chain) rest) q.chain =
      rw (p.reading, p.uses) at q.is_chain in
      let e : output_of writes from.writing new ≡ followed o v =
      output_of-append writes from.writing p.chain q.chain in
      let wv : output_of writes now.writing q.chain ≡ v = ap (λ t. output_of writes t q.chain) p.writing in
      let ub : used_bytes new ≡ used_bytes p.chain + used_bytes q.chain = used_bytes-append p.chain q.chain in
      let wrote_is : step.written ≡ length v.bytes = q.writes_bytes ∙ ap (λ x. length x.bytes) wv in
      let front : List ℕ = take at before ++ o.bytes in
      let place : at + taken.written ≡ length front =
      omega (arith, p.writes_bytes, p.fits, length-append (take at before) o.bytes, length-take at before) in
      let long : length out ≡ length before =
      ap length p.out ∙ simp (length-append, length-take, length-drop) (omega (arith, p.writes_bytes, p.fits)) in
      let put : after ≡ (front ++ v.bytes) ++ drop (at + taken.written + step.written) before =
      q.out ∙ rw (p.out, wv, wrote_is) (out_more front v.bytes before (at + taken.written) place) in
      let there : at + taken.written + step.written ≡ at + (taken.written + step.written) = omega arith in
      record {
        chain = new;
        is_chain = IsChain-append reads from.reading rest p.chain q.chain p.is_chain more;
        allowed = subst (λ (x : Output). Allows policy x) (sym e)
            (followed_allowed policy o v p.allowed (subst (λ (x : Output). Allows policy x) wv q.allowed));
        uses = omega (arith, ub, p.uses, q.uses);
        reading = q.reading ∙ ap (λ s. read_state s q.chain) p.reading
            ∙ sym (read_state-append from.reading p.chain q.chain);
        counts = rw e (omega (arith, p.counts, q.counts, ap (λ x. x.count) wv));
        writing = q.writing ∙ ap (λ x. x.next) wv ∙ sym (ap (λ x. x.next) e);
        writes_bytes = rw e (omega (arith, length-append o.bytes v.bytes, p.writes_bytes, wrote_is));
        fits = omega (arith, q.fits, long);
        out = rw e (put ∙ rw there (ap (λ (x : List ℕ). x ++ drop (at + (taken.written + step.written)) before)
            (append_assoc (take at before) o.bytes v.bytes)));
      }

  module _ (text : List ℕ) (from : States) (start : Progress) (before : List ℕ) where
    -- a step more
    pub advances_more : (now : States) (progress : Progress) (out : List ℕ)
        → Advances reads writes policy text from start before now progress out
        → (step : Progress) (to : States) (after : List ℕ)
        → Takes reads writes policy now (drop progress.read text) out progress.written step to after
        → Advances reads writes policy text from start before to (plus progress step) after
    advances_more now progress out p step to after q = let rest = drop start.read text in
        let there = subst
        (λ (x : Progress). Takes reads writes policy now (drop x.read text) out x.written step to after) p.ends q in
        let behind : Takes reads writes policy now (drop p.step.read rest) out
        (start.written + p.step.written) step to after = rw (drop-drop p.step.read start.read text) there in
        record {
          step = plus p.step step;
          ends = ap (λ (x : Progress). plus x step) p.ends ∙ simp add_assoc;
          takes = takes_more from rest before start.written p.step now out p.takes step to after behind;
        }

    -- A conversion has advanced to this progress, which is within the text and the buffer.
    pub record Reached (now : States) (progress : Progress) (out : List ℕ) : Type 0 where
      pub advances : Advances reads writes policy text from start before now progress out
      pub within : IsWithin progress text out

    -- at first it has reached its start
    pub reached_start : IsWithin start text before → Reached from start before
    reached_start h = let none = takes_none from (drop start.read text) before start.written h.1 in
        record { advances = record { step = nothing; ends = simp add-zero; takes = none }; within = h }

  module _ (r : IsReadable reads) where
    -- if no byte is read, nothing changes
    pub takes_nothing : (from : States) (rest before : List ℕ) (at : ℕ) (step : Progress) (to : States) (after : List ℕ)
        → Takes reads writes policy from rest before at step to after → step.read ≡ 0 → (to ≡ from) × (after ≡ before)
    takes_nothing from rest before at step to after p e =
        let none = no_chain reads r from.reading rest p.chain p.is_chain (sym p.uses ∙ e) in
        let wrote : step.written ≡ 0 = rw none at p.writes_bytes in
        let reading : to.reading ≡ from.reading = rw none at p.reading in
        let writing : to.writing ≡ from.writing = rw none at p.writing in
        let same : to ≡ from =
        ap (λ (x : ReadState). let t : States = record { reading = x; writing = to.writing } in t) reading
        ∙ ap (λ (x : WriteState). let t : States = record { reading = from.reading; writing = x } in t) writing in
        (same, rw none at p.out ∙ rw (wrote, add-zero, append-nil) (take-append-drop at before))

    -- a step more
    pub reached_more : (text : List ℕ) (from : States) (start : Progress) (before : List ℕ)
        (now : States) (progress : Progress) (out : List ℕ) → Reached text from start before now progress out
        → (step : Progress) (to : States) (after : List ℕ)
        → TakesSome reads writes policy now (take (length text - progress.read) (drop progress.read text)) out
        progress.written step to after
        → Reached text from start before to (plus progress step) after
    reached_more text from start before now progress out p step to after h =
        let q = rw (rest_is progress.read text) at h.takes in
        let s = takes_within reads writes policy r now (drop progress.read text) out progress.written step to after q in
        let left = length-drop progress.read text in
        let read : progress.read + step.read ≤ length text = omega (arith, s.0, left, p.within.0) in
        record {
          advances = advances_more text from start before now progress out p.advances step to after q;
          within = (read, omega (arith, s.1, s.3), omega (arith, s.2, p.within.2));
        }

    -- if it stops, the chain from its start is the longest
    pub stopped : (text : List ℕ) (from : States) (before : List ℕ) (now : States) (progress : Progress) (out : List ℕ)
        → Advances reads writes policy text from nothing before now progress out
        → (stop : Stop) → StepStops reads writes policy now (drop progress.read text) out progress.written stop
        → Converts reads writes policy from text before (outcome_of progress stop (length text) (length out)) now out
    stopped text from before now progress out p stop q = let e : progress ≡ p.step = p.ends ∙ simp zero-add in
        let whole : Takes reads writes policy from text before 0 progress now out =
        subst (λ (x : Progress). Takes reads writes policy from text before 0 x now out) (sym e) p.takes in
        takes_stopped reads writes policy r from text before progress now out whole stop q

    -- if what is left finishes, the chain from the start is the longest
    pub finished : (text : List ℕ) (from : States) (before : List ℕ) (now : States) (progress : Progress) (out : List ℕ)
        → Advances reads writes policy text from nothing before now progress out
        → (outcome : Outcome) (to : States) (after : List ℕ)
        → Finishes reads writes policy text now progress out outcome to after
        → Converts reads writes policy from text before outcome to after
    finished text from before now progress out p outcome to after q = let last = q.advances in
        let whole = advances_more text from nothing before now progress out p last.step to after last.takes in
        let to_end : Advances reads writes policy text from nothing before to q.end after = subst
        (λ (x : Progress). Advances reads writes policy text from nothing before to x after) (sym last.ends) whole in
        subst (λ (x : Outcome). Converts reads writes policy from text before x to after) (sym q.outcome_is)
        (stopped text from before to q.end after to_end outcome.stop q.stops)

    -- taking one item or none takes some items or none
    pub item_strides : (from : States) (rest before : List ℕ) (at : ℕ) (step : Result Progress Stop) (to : States)
        (after : List ℕ) → TakesOrStops reads writes policy from rest before at step to after
        → StridesOrStops reads writes policy from rest before at step to after
    item_strides from rest before at (Ok step) to after q =
        some_of_one reads writes policy r from rest before at step to after q
    item_strides from rest before at (Err stop) to after q = q
