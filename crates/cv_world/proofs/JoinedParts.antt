-- Two PARTs, one after the other and both OK, do what one PART of both bodies does. A charmap whose text was sent in
-- parts is held as one whose text is sent whole.
use Rattle.std.proofs.Common.{◌≡◌, ◌≢◌, ◌⊎◌, inl, inr, ℕ, Bool, true, false, List, [], ◌∷◌, ◌++◌, length, nat_lt}
use Rattle.std.proofs.Common.{Option, Some, None, refl, sym, ap, subst, ◌∙◌, append_assoc}
use Rattle.cv_charmap.specs.Meaning.{Charmap}
use Rattle.cv_cache.specs.Compiled.{Compiled, Read, Faulty, Lacking}
use Rattle.cv_machine.specs.Machine.{Outcome, When}
use Rattle.cv_frame.specs.declared.status.Status.TheVariants as status
use Rattle.cv_caller.specs.Tables.{Table, least_place, with_part}
use Rattle.cv_caller.specs.Results.{is_taken, is_full}
use Rattle.cv_caller.specs.Limits.{most_part}
use Rattle.cv_world.specs.Actions.{Action, Part}
use Rattle.cv_world.specs.Answers.{answer_code}
use Rattle.cv_world.specs.Laws.{JoinsParts}
use Rattle.cv_frame.specs.Ops.{op_put, op_part}
use Rattle.cv_world.specs.Requests.{AsksPut, MayTurn, turn}
use Rattle.cv_world.specs.Turn.{Does, Refuses, Holds, Puts, Parts, Acts}
use Rattle.cv_world.specs.declared.answer.Answer.{Answer}
use Rattle.cv_world.specs.declared.answer.Answer.TheVariants as answers

-- an answer that is not OK
refused : (next : Table) (answer : Answer) (A : Type 0) → (answer_code answer ≡ 0 → ⊥) → (t : Table) (a : Answer)
    → answer_code a ≡ 0 → Does t a next answer → A
refused next answer A other t a ok d = absurd (other (ap answer_code (sym d.1) ∙ ok))

by_test : (b : Bool) (A B C D : Type 0) → (A → C) → (B → D) → When b A B → When b C D
by_test true A B C D f g h = f h
by_test false A B C D f g h = g h

-- If the charmap is held, the part does not matter.
holds : (table : Table) (p q : List ℕ) (charmap : Charmap) (place : Option ℕ) (t : Table) (a : Answer)
    → answer_code a ≡ 0 → Holds (with_part table p) charmap place t a → Holds (with_part table q) charmap place t a
holds table p q charmap None t a ok h = refused _ _ _ (λ e. absurd cc) t a ok h
holds table p q charmap (Some place) t a ok h =
    elim h [ inl x ↦ inl x | inr x ↦ refused _ _ _ (λ e. absurd cc) t a ok x ]

puts : (table : Table) (p q : List ℕ) (came : Compiled) (t : Table) (a : Answer) → answer_code a ≡ 0
    → Puts (with_part table p) came t a → Puts (with_part table q) came t a
puts table p q Lacking t a ok h = refused _ _ _ (λ e. absurd cc) t a ok h
puts table p q (Faulty fault) t a ok h = refused _ _ _ (λ e. absurd cc) t a ok h
puts table p q (Read charmap) t a ok h = by_test (is_taken table.charmaps charmap.name) _ _ _ _
    (refused _ _ _ (λ e. absurd cc) t a ok) (by_test (is_full table.charmaps (length charmap.pairs)) _ _ _ _
    (refused _ _ _ (λ e. absurd cc) t a ok) (holds table p q charmap (least_place table.charmaps) t a ok)) h

put : (table : Table) (p q text : List ℕ) (action : Action) (t : Table) (a : Answer) → AsksPut text action
    → answer_code a ≡ 0 → Acts (with_part table p) action t a → Acts (with_part table q) action t a
put table p q text action t a asks ok h = subst (λ (x : Action). Acts (with_part table q) x t a) (sym asks.is)
    (puts table p q asks.charmap t a ok (subst (λ (x : Action). Acts (with_part table p) x t a) asks.is h))

-- ---- parts

-- A PART that is OK appended its body to the part before it.
taken_by : (x : Bool) (table : Table) (bytes : List ℕ) (t : Table) (a : Answer) → answer_code a ≡ 0
    → When x (Refuses table t a status.Quota) (Does t a (with_part table bytes) (answers.Count (length bytes)) ⊎ Refuses
    table t a status.NoMemory) → (x ≡ false) × (t ≡ with_part table bytes) × (a ≡ answers.Count (length bytes))
taken_by true table bytes t a ok h = refused _ _ _ (λ e. absurd cc) t a ok h
taken_by false table bytes t a ok h =
    elim h [ inl y ↦ (refl, y.0, y.1) | inr y ↦ refused _ _ _ (λ e. absurd cc) t a ok y ]

taken : (table : Table) (bytes : List ℕ) → bytes ≢ [] → (t : Table) (a : Answer) → answer_code a ≡ 0 → Parts table bytes
    t a → (nat_lt most_part (length (table.part ++ bytes)) ≡ false) × (t ≡ with_part table (table.part ++ bytes))
    × (a ≡ answers.Count (length (table.part ++ bytes)))
taken table [] some t a ok h = absurd (some refl)
taken table (b ∷ bytes) some t a ok h = taken_by _ table (table.part ++ b ∷ bytes) t a ok h

takes : (table : Table) (bytes all : List ℕ) → all ≡ table.part ++ bytes → bytes ≢ [] → (t : Table) (a : Answer)
    → nat_lt most_part (length all) ≡ false → t ≡ with_part table all → a ≡ answers.Count (length all)
    → Parts table bytes t a
takes table [] all e some t a few is told = absurd (some refl)
takes table (b ∷ bytes) all e some t a few is told =
    let fits : nat_lt most_part (length (table.part ++ b ∷ bytes)) ≡ false =
    ap (λ (x : List ℕ). nat_lt most_part (length x)) (sym e) ∙ few in
    rw fits (inl (is ∙ ap (with_part table) e, told ∙ ap (λ (x : List ℕ). answers.Count (length x)) e))

some_more : (xs ys : List ℕ) → xs ≢ [] → xs ++ ys ≢ []
some_more [] ys some e = some refl
some_more (x ∷ xs) ys some e = absurd cc

-- The result of a PART, by its bytes.
parted : (table : Table) (bytes : List ℕ) (outcome : Outcome Table) (m : MayTurn table op_part bytes outcome)
    → Parts table bytes outcome.next m.answer
parted table bytes outcome m = subst (λ (x : Action). Acts table x outcome.next m.answer) m.asks m.acts

two_parts : (table : Table) (first second : List ℕ) (between after : Outcome Table) → first ≢ [] → second ≢ []
    → between.code ≡ 0 → after.code ≡ 0 → turn table op_part first between → turn between.next op_part second after
    → turn table op_part (first ++ second) after
two_parts table first second between after some more ok fine p q =
    let one = taken table first some between.next p.answer (sym p.code_is ∙ ok) (parted table first between p) in
    let then : Parts (with_part table (table.part ++ first)) second after.next q.answer =
    subst (λ (x : Table). Parts x second after.next q.answer) one.1 (parted between.next second after q) in
    let two =
    taken (with_part table (table.part ++ first)) second more after.next q.answer (sym q.code_is ∙ fine) then in
    record {
      action = Part (first ++ second);
      asks = refl;
      answer = q.answer;
      acts = takes table (first ++ second) ((table.part ++ first) ++ second) (append_assoc table.part first second)
          (some_more first second some) after.next q.answer two.0 two.1 two.2;
      code_is = q.code_is;
      body_is = q.body_is;
    }

-- ---- both

whole_put : (table : Table) (p q text : List ℕ) (outcome : Outcome Table) → outcome.code ≡ 0 → (body other : List ℕ)
    → text ≡ p ++ body → text ≡ q ++ other
    → turn (with_part table p) op_put body outcome → turn (with_part table q) op_put other outcome
whole_put table p q text outcome ok body other e f m =
    let asks : AsksPut text m.action = subst (λ (x : List ℕ). AsksPut x m.action) (sym e) m.asks in
    record {
      action = m.action;
      asks = subst (λ (x : List ℕ). AsksPut x m.action) f asks;
      answer = m.answer;
      acts = put table p q text m.action outcome.next m.answer asks (sym m.code_is ∙ ok) m.acts;
      code_is = m.code_is;
      body_is = m.body_is;
    }

-- Two PARTs are one, and the text of a PUT is the part followed by the body.
pub joins_parts : JoinsParts
joins_parts = record {
  parts = two_parts;
  put = λ table part body outcome ok. (
    whole_put table part [] (part ++ body) outcome ok body (part ++ body) refl refl,
    whole_put table [] part (part ++ body) outcome ok (part ++ body) body refl refl,
  );
}
