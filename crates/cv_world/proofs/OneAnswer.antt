-- Each request has at most one answer besides an allocation failure.
use Rattle.std.proofs.Common.{◌≡◌, ◌≢◌, ◌⊎◌, inl, inr, ◌==◌, ℕ, Bool, true, false, List, [], ◌∷◌, ◌++◌, length, nat_lt}
use Rattle.std.proofs.Common.{Option, Some, None, refl, sym, ap, subst, ◌∙◌}
use Rattle.std.specs.List.{list_any}
use Rattle.cv_base.specs.declared.policy.Policy.{Policy}
use Rattle.cv_charmap.specs.Meaning.{Charmap}
use Rattle.cv_cache.specs.Compiled.{Compiled, Read, Faulty, Lacking, MayCompile}
use Rattle.cv_pivot.specs.Conversions.{Converted}
use Rattle.cv_pivot.specs.Encodings.{form_closes}
use Rattle.cv_pivot.proofs.EncodingLaws.{form_readable}
use Rattle.cv_pivot.specs.declared.outcome.Stop.{Stop}
use Rattle.cv_pivot.specs.declared.outcome.Stop.TheVariants as stop
use Rattle.cv_pivot.proofs.RoomForTheMost.{one_conversion}
use Rattle.cv_machine.specs.Machine.{Outcome, IsOneAnswer, When, no_memory}
use Rattle.cv_frame.specs.Status.{status_number}
use Rattle.cv_frame.specs.declared.status.Status.TheVariants as status
use Rattle.cv_machine.proofs.Outcomes.{same_outcome}
use Rattle.cv_caller.specs.Tables.{Table, Named, Descriptor, form_in, named_of, place_of, least_place, least_free}
use Rattle.cv_caller.specs.Tables.{descriptor_at, uses}
use Rattle.cv_caller.specs.Results.{is_taken, is_full}
use Rattle.cv_caller.specs.Limits.{most_part}
use Rattle.cv_world.specs.Actions.{Action, Put, DropMap, Open, Conv, Reset, Close, Bye, Part, Bad}
use Rattle.cv_world.specs.Answers.{answer_code, answer_body, stop_status, most_room}
use Rattle.cv_frame.specs.Ops.{op_put}
use Rattle.cv_world.specs.Requests.{AsksPut, MayTurn, action_of, turn}
use Rattle.cv_world.specs.Turn.{Does, Holds, Puts, Parts, Drops, Binds, Opens, IsConversion, Convs, Resets, Closes}
use Rattle.cv_world.specs.Turn.{Acts, with_states}
use Rattle.cv_world.specs.declared.answer.Answer.{Answer}
use Rattle.cv_world.specs.declared.answer.Answer.TheVariants as answers

-- A relation allows at most one table and answer, besides an allocation failure.
pub record HasOneAct (table : Table) (May : Table → Answer → Type 0) : Type 0 where
  pub one : (t u : Table) (a b : Answer) → May t a → May u b → answer_code a ≢ no_memory → answer_code b ≢ no_memory
      → (t ≡ u) × (a ≡ b)
  pub lacks : (t : Table) (a : Answer) → May t a → answer_code a ≡ no_memory → (t ≡ table) × (answer_body a ≡ [])

-- one answer, which is not an allocation failure
one_does : (table next : Table) (answer : Answer) → answer_code answer ≢ no_memory
    → HasOneAct table (λ t a. Does t a next answer)
one_does table next answer other = record {
  one = λ t u a b p q m n. (p.0 ∙ sym q.0, p.1 ∙ sym q.1);
  lacks = λ t a p e. absurd (other (ap answer_code (sym p.1) ∙ e));
}

-- an allocation failure alone
one_lack : (table : Table) → HasOneAct table (λ t a. Does t a table (answers.Refused status.NoMemory))
one_lack table = record {
  one = λ t u a b p q m n. absurd (m (ap answer_code p.1));
  lacks = λ t a p e. (p.0, ap answer_body p.1);
}

-- or an allocation failure
one_or : (table : Table) (May : Table → Answer → Type 0) → HasOneAct table May
    → HasOneAct table (λ t a. May t a ⊎ Does t a table (answers.Refused status.NoMemory))
one_or table May h = record {
  one = λ t u a b p q m n. elim p [
    | inl x ↦ elim q [ inl y ↦ h.one t u a b x y m n | inr y ↦ absurd (n (ap answer_code y.1)) ]
    | inr x ↦ absurd (m (ap answer_code x.1))
  ];
  lacks = λ t a p e. elim p [ inl x ↦ h.lacks t a x e | inr x ↦ (x.0, ap answer_body x.1) ];
}

-- by a test
one_when : (table : Table) (b : Bool) (May Else : Table → Answer → Type 0) → HasOneAct table May → HasOneAct table Else
    → HasOneAct table (λ t a. When b (May t a) (Else t a))
one_when table true May Else p q = p
one_when table false May Else p q = q

one_hold : (table : Table) (charmap : Charmap) (place : Option ℕ) → HasOneAct table (Holds table charmap place)
one_hold table charmap None = one_does table _ _ (λ e. absurd cc)
one_hold table charmap (Some place) = one_or table _ (one_does table _ _ (λ e. absurd cc))

one_put : (table : Table) (came : Compiled) → HasOneAct table (Puts table came)
one_put table Lacking = one_lack table
one_put table (Faulty fault) = one_does table _ _ (λ e. absurd cc)
one_put table (Read charmap) = one_when table (is_taken table.charmaps charmap.name) _ _
    (one_does table _ _ (λ e. absurd cc)) (one_when table (is_full table.charmaps (length charmap.pairs)) _ _
    (one_does table _ _ (λ e. absurd cc)) (one_hold table charmap (least_place table.charmaps)))

one_part : (table : Table) (bytes : List ℕ) → HasOneAct table (Parts table bytes)
one_part table [] = one_does table _ _ (λ e. absurd cc)
one_part table (b ∷ bytes) = one_when table (nat_lt most_part (length (table.part ++ b ∷ bytes))) _ _
    (one_does table _ _ (λ e. absurd cc)) (one_or table _ (one_does table _ _ (λ e. absurd cc)))

one_drop : (table : Table) (place : Option ℕ) → HasOneAct table (Drops table place)
one_drop table None = one_does table _ _ (λ e. absurd cc)
one_drop table (Some place) = one_when table (list_any (uses place) table.descriptors) _ _
    (one_does table _ _ (λ e. absurd cc)) (one_does table _ _ (λ e. absurd cc))

one_bind : (table : Table) (number : ℕ) (policy : Policy) (to from : Option Named)
    → HasOneAct table (Binds table number policy to from)
one_bind table number policy (Some to) (Some from) = one_or table _ (one_does table _ _ (λ e. absurd cc))
one_bind table number policy (Some to) None = one_does table _ _ (λ e. absurd cc)
one_bind table number policy None from = one_does table _ _ (λ e. absurd cc)

one_open : (table : Table) (number : Option ℕ) (to from : List ℕ) (policy : Policy)
    → HasOneAct table (Opens table number to from policy)
one_open table None to from policy = one_does table _ _ (λ e. absurd cc)
one_open table (Some number) to from policy =
    one_bind table number policy (named_of table.charmaps to) (named_of table.charmaps from)

-- no stop has the status of an allocation failure
pub other_code : (s : Stop) → status_number (stop_status s) ≢ no_memory
other_code stop.Done e = absurd cc
other_code stop.TooBig e = absurd cc
other_code stop.Lacking e = absurd cc
other_code stop.Ill e = absurd cc
other_code stop.Incomplete e = absurd cc

-- There is one longest conversion.
one_convert : (table : Table) (number : ℕ) (d : Descriptor) (room : ℕ) (input : List ℕ)
    → HasOneAct table (IsConversion table number d room input)
one_convert table number d room input = record {
  one = λ t u a b p q m n.
      let e : p.came ≡ q.came = one_conversion _ _ d.policy (form_readable (form_in table.charmaps d.from) p.is_form)
      d.states input room p.came q.came p.is_converted q.is_converted in (
        p.does.0 ∙ ap (λ (c : Converted). with_states table number d c.states) e ∙ sym q.does.0,
        p.does.1 ∙ ap (λ (c : Converted). answers.Converted c.stop c.left c.count c.output) e ∙ sym q.does.1,
      );
  lacks = λ t a p e. absurd (other_code p.came.stop (sym (ap answer_code p.does.1) ∙ e));
}

one_conv : (table : Table) (number : ℕ) (d : Option Descriptor) (room : ℕ) (input : List ℕ)
    → HasOneAct table (Convs table number d room input)
one_conv table number None room input = one_does table _ _ (λ e. absurd cc)
one_conv table number (Some d) room input = one_when table (nat_lt most_room room) _ _
    (one_does table _ _ (λ e. absurd cc)) (one_or table _ (one_convert table number d room input))

one_reset : (table : Table) (number : ℕ) (d : Option Descriptor) (room : ℕ)
    → HasOneAct table (Resets table number d room)
one_reset table number None room = one_does table _ _ (λ e. absurd cc)
one_reset table number (Some d) room = one_when table (nat_lt most_room room) _ _
    (one_does table _ _ (λ e. absurd cc)) (one_when table (room == 0) _ _ (one_does table _ _ (λ e. absurd cc))
    (one_when table (nat_lt room (length (form_closes (form_in table.charmaps d.to) d.states.writing))) _ _
    (one_does table _ _ (λ e. absurd cc)) (one_does table _ _ (λ e. absurd cc))))

one_close : (table : Table) (number : ℕ) (d : Option Descriptor) → HasOneAct table (Closes table number d)
one_close table number None = one_does table _ _ (λ e. absurd cc)
one_close table number (Some d) = one_does table _ _ (λ e. absurd cc)

-- An action has at most one result besides an allocation failure.
pub one_act : (table : Table) (action : Action) → HasOneAct table (Acts table action)
one_act table (Put came) = one_put table came
one_act table (DropMap name) = one_drop table (place_of table.charmaps name)
one_act table (Open to from policy) = one_open table (least_free table) to from policy
one_act table (Conv number room input) = one_conv table number (descriptor_at table number) room input
one_act table (Reset number room) = one_reset table number (descriptor_at table number) room
one_act table (Close number) = one_close table number (descriptor_at table number)
one_act table Bye = one_does table _ _ (λ e. absurd cc)
one_act table (Part bytes) = one_part table bytes
one_act table Bad = one_does table _ _ (λ e. absurd cc)

-- ---- a request asks for one thing, unless an allocation failed

one_compiled : (text : List ℕ) (a b : Compiled) → MayCompile text a → MayCompile text b → a ≢ Lacking → b ≢ Lacking
    → a ≡ b
one_compiled text (Read m) (Read n) p q h k = let e = sym p ∙ q in cc
one_compiled text (Read m) (Faulty g) p q h k = let e = sym p ∙ q in absurd cc
one_compiled text (Faulty f) (Read n) p q h k = let e = sym p ∙ q in absurd cc
one_compiled text (Faulty f) (Faulty g) p q h k = let e = sym p ∙ q in cc
one_compiled text Lacking b p q h k = absurd (h refl)
one_compiled text (Read m) Lacking p q h k = absurd (k refl)
one_compiled text (Faulty f) Lacking p q h k = absurd (k refl)

one_asked : (t : Bool) (text : List ℕ) (other a b : Action) → When t (AsksPut text a) (a ≡ other)
    → When t (AsksPut text b) (b ≡ other) → a ≢ Put Lacking → b ≢ Put Lacking → a ≡ b
one_asked true text other a b p q h k = p.is ∙ ap Put
    (one_compiled text p.charmap q.charmap p.may q.may (λ e. h (p.is ∙ ap Put e)) (λ e. k (q.is ∙ ap Put e))) ∙ sym q.is
one_asked false text other a b p q h k = p ∙ sym q

not_lacking : (table : Table) (code : ℕ) (body : List ℕ) (o : Outcome Table) (p : MayTurn table code body o)
    → o.code ≢ no_memory → p.action ≢ Put Lacking
not_lacking table code body o p h e =
    let acts : Acts table (Put Lacking) o.next p.answer =
    subst (λ (x : Action). Acts table x o.next p.answer) e p.acts in
    h (p.code_is ∙ ap answer_code acts.1)

-- Each request has at most one answer besides an allocation failure.
pub one_answer : IsOneAnswer turn
one_answer table code body = record {
  one = λ a b p q m n.
      let same : p.action ≡ q.action = one_asked (code == op_put) (table.part ++ body) (action_of code body) p.action
      q.action p.asks q.asks (not_lacking table code body a p m) (not_lacking table code body b q n) in
      let there : Acts table p.action b.next q.answer =
      subst (λ (x : Action). Acts table x b.next q.answer) (sym same) q.acts in
      let e = (one_act table p.action).one a.next b.next p.answer q.answer p.acts there (λ h. m (p.code_is ∙ h))
      (λ h. n (q.code_is ∙ h)) in
      same_outcome a b e.0 (p.code_is ∙ ap answer_code e.1 ∙ sym q.code_is)
      (p.body_is ∙ ap answer_body e.1 ∙ sym q.body_is);
  lacks = λ a p h.
      let e = (one_act table p.action).lacks a.next p.answer p.acts (sym p.code_is ∙ h) in
      same_outcome a (record { next = table; code = no_memory; body = [] }) e.0 h (p.body_is ∙ e.1);
}
