-- For every stream something is served: a request that may run out of memory has another outcome too, and each outcome
-- fits a frame.
use Rattle.std.proofs.Common.{◌≡◌, ◌⊎◌, inl, inr, ℕ, ◌<◌, ◌≤◌, Bool, true, false, List, [], ◌∷◌, ◌++◌, length, nat_lt}
use Rattle.std.proofs.Common.{◌==◌, Option, Some, None, refl, sym, ap, subst, lit<, arith}
use Rattle.std.specs.Prelude.{if◌then◌else◌}
use Rattle.std.specs.List.{AllByRecursion, list_any}
use Rattle.std.proofs.lemmas.Bool.{cases_eq, ltb-false}
use Rattle.cv_base.specs.declared.policy.Policy.{Policy}
use Rattle.cv_caller.specs.Limits.{most_part}
use Rattle.cv_caller.specs.Results.{is_taken, is_full}
use Rattle.cv_caller.specs.Tables.{Table, Named, Descriptor, form_in, named_of, place_of, least_place, least_free}
use Rattle.cv_caller.specs.Tables.{descriptor_at, uses}
use Rattle.cv_cache.specs.Compiled.{Compiled, Read, Faulty, Lacking}
use Rattle.cv_charmap.specs.Meaning.{Charmap}
use Rattle.cv_frame.specs.Cut.{messages_of, OneCut}
use Rattle.cv_frame.specs.Message.{Message, joined, FitsFrame}
use Rattle.cv_frame.specs.Sizes.{most_body}
use Rattle.cv_frame.specs.Status.{status_number}
use Rattle.cv_frame.specs.declared.status.Status.{Status}
use Rattle.cv_frame.specs.declared.status.Status.TheVariants as status
use Rattle.cv_machine.specs.Machine.{Outcome, Event, When, IsRun, NoneLacks, requests, replies_of, tables_after}
use Rattle.cv_machine.specs.Machine.{no_memory}
use Rattle.cv_pivot.specs.Encodings.{form_closes}
use Rattle.cv_world.specs.Actions.{Action, Put, DropMap, Open, Conv, Reset, Close, Bye, Part, Bad}
use Rattle.cv_world.specs.Answers.{answer_status, answer_body, most_room}
use Rattle.cv_world.specs.Laws.{IsSound, KeepsTables, NeverLacksAlone}
use Rattle.cv_world.specs.Requests.{turn}
use Rattle.cv_world.specs.Turn.{Does, Holds, Puts, Parts, Drops, Binds, Opens, IsConversion, Convs, Restarts, Resets}
use Rattle.cv_world.specs.Turn.{Closes, Acts}
use Rattle.cv_world.specs.declared.answer.Answer.{Answer}
use Rattle.cv_world.specs.declared.answer.Answer.TheVariants as answers
use Rattle.cv_loop.proofs.FirstServed.{joined_are}
use Rattle.cv_loop.specs.Laws.{SomeService}

-- ---- each answer fits a frame

small : (s : Status) → status_number s < 256
small status.Ok = lit< tt
small status.TooBig = lit< tt
small status.Ill = lit< tt
small status.Incomplete = lit< tt
small status.BadDescriptor = lit< tt
small status.TooManyDescriptors = lit< tt
small status.NoMemory = lit< tt
small status.Unsupported = lit< tt
small status.BadRequest = lit< tt
small status.BadMap = lit< tt
small status.Exists = lit< tt
small status.NoName = lit< tt
small status.Busy = lit< tt
small status.Quota = lit< tt
small status.Room = lit< tt
small status.Lacking = lit< tt

-- The body of an answer has at most 1,048,567 bytes.
abbrev IsShort : Answer → Type 0
IsShort answer = length (answer_body answer) ≤ most_body

-- Every answer that the relation allows is short.
abbrev AreShort : (Table → Answer → Type 0) → Type 0
AreShort May = (next : Table) (answer : Answer) → May next answer → IsShort answer

does : (table : Table) (is : Answer) → IsShort is → AreShort (λ next answer. Does next answer table is)
does table is short next answer h = subst IsShort (sym h.1) short

refuses : (table : Table) (s : Status) → AreShort (λ next answer. Does next answer table (answers.Refused s))
refuses table s = does table (answers.Refused s) (omega arith)

by_test : (b : Bool) (May Else : Table → Answer → Type 0) → (b ≡ true → AreShort May) → (b ≡ false → AreShort Else)
    → AreShort (λ next answer. When b (May next answer) (Else next answer))
by_test true May Else p q = p refl
by_test false May Else p q = q refl

either : (May Else : Table → Answer → Type 0) → AreShort May → AreShort Else
    → AreShort (λ next answer. May next answer ⊎ Else next answer)
either May Else p q next answer (inl h) = p next answer h
either May Else p q next answer (inr h) = q next answer h

holds : (table : Table) (charmap : Charmap) (place : Option ℕ) → AreShort (Holds table charmap place)
holds table charmap None = refuses table status.Quota
holds table charmap (Some place) = either _ _ (does _ _ (omega arith)) (refuses table status.NoMemory)

puts : (table : Table) (came : Compiled) → AreShort (Puts table came)
puts table Lacking = refuses table status.NoMemory
puts table (Faulty fault) = does table (answers.BadMap fault) (omega arith)
puts table (Read charmap) = by_test (is_taken table.charmaps charmap.name) _ _ (λ e. refuses table status.Exists)
    (λ e. by_test (is_full table.charmaps (length charmap.pairs)) _ _ (λ f. refuses table status.Quota)
    (λ f. holds table charmap (least_place table.charmaps)))

parts : (table : Table) (bytes : List ℕ) → AreShort (Parts table bytes)
parts table [] = does _ _ (omega arith)
parts table (b ∷ bytes) = by_test (nat_lt most_part (length (table.part ++ b ∷ bytes))) _ _
    (λ e. refuses table status.Quota) (λ e. either _ _ (does _ _ (omega arith)) (refuses table status.NoMemory))

drops : (table : Table) (place : Option ℕ) → AreShort (Drops table place)
drops table None = refuses table status.NoName
drops table (Some place) =
    by_test (list_any (uses place) table.descriptors) _ _ (λ e. refuses table status.Busy) (λ e. does _ _ (omega arith))

binds : (table : Table) (number : ℕ) (policy : Policy) (to from : Option Named)
    → AreShort (Binds table number policy to from)
binds table number policy (Some to) (Some from) = either _ _ (does _ _ (omega arith)) (refuses table status.NoMemory)
binds table number policy (Some to) None = refuses table status.Unsupported
binds table number policy None from = refuses table status.Unsupported

opens : (table : Table) (number : Option ℕ) (to from : List ℕ) (policy : Policy)
    → AreShort (Opens table number to from policy)
opens table None to from policy = refuses table status.TooManyDescriptors
opens table (Some number) to from policy =
    binds table number policy (named_of table.charmaps to) (named_of table.charmaps from)

conversion : (table : Table) (number : ℕ) (d : Descriptor) (room : ℕ) (input : List ℕ) → room ≤ most_room
    → AreShort (IsConversion table number d room input)
conversion table number d room input few next answer h =
    let long : length h.came.output ≤ room =
    subst (λ (x : List ℕ). length x ≤ room) (sym h.is_converted.output) h.is_converted.longest.fits in
    subst IsShort (sym h.does.1) (omega (arith, long, few))

convs : (table : Table) (number : ℕ) (d : Option Descriptor) (room : ℕ) (input : List ℕ)
    → AreShort (Convs table number d room input)
convs table number None room input = refuses table status.BadDescriptor
convs table number (Some d) room input = by_test (nat_lt most_room room) _ _ (λ e. refuses table status.Room) (λ e.
    either _ _ (conversion table number d room input (ltb-false most_room room e)) (refuses table status.NoMemory))

restarts : (table : Table) (number : ℕ) (d : Descriptor) (room : ℕ) (closing : List ℕ) → room ≤ most_room
    → AreShort (Restarts table number d room closing)
restarts table number d room closing few = by_test (room == 0) _ _
    (λ e. does _ _ (omega arith)) (λ e. by_test (nat_lt room (length closing)) _ _ (λ f. refuses table status.TooBig)
    (λ f. does _ _ (let fit : length closing ≤ room = ltb-false room (length closing) f in omega (arith, fit, few))))

resets : (table : Table) (number : ℕ) (d : Option Descriptor) (room : ℕ) → AreShort (Resets table number d room)
resets table number None room = refuses table status.BadDescriptor
resets table number (Some d) room = by_test (nat_lt most_room room) _ _ (λ e. refuses table status.Room) (λ e. restarts
    table number d room (form_closes (form_in table.charmaps d.to) d.states.writing) (ltb-false most_room room e))

closes : (table : Table) (number : ℕ) (d : Option Descriptor) → AreShort (Closes table number d)
closes table number None = refuses table status.BadDescriptor
closes table number (Some d) = does _ _ (omega arith)

acts : (table : Table) (action : Action) → AreShort (Acts table action)
acts table (Put came) = puts table came
acts table (DropMap name) = drops table (place_of table.charmaps name)
acts table (Open to from policy) = opens table (least_free table) to from policy
acts table (Conv number room input) = convs table number (descriptor_at table number) room input
acts table (Reset number room) = resets table number (descriptor_at table number) room
acts table (Close number) = closes table number (descriptor_at table number)
acts table Bye = does _ _ (omega arith)
acts table (Part bytes) = parts table bytes
acts table Bad = refuses table status.BadRequest

-- the reply to a request that fits a frame fits one
reply_fits : (table : Table) (m : Message) (outcome : Outcome Table) → FitsFrame m → turn table m.code m.body outcome
    → FitsFrame (record { caller = m.caller; tag = m.tag; code = outcome.code; body = outcome.body })
reply_fits table m outcome fits t =
    let short : length (answer_body t.answer) ≤ most_body = acts table t.action outcome.next t.answer t.acts in
    record {
      caller = fits.caller;
      tag = fits.tag;
      code = subst (λ (n : ℕ). n < 256) (sym t.code_is) (small (answer_status t.answer));
      body = subst (λ (bytes : List ℕ). length bytes ≤ most_body) (sym t.body_is) short;
    }

-- ---- a run

module _ (keeps : KeepsTables) (never : NeverLacksAlone) where
  sound_by : (b : Bool) (table other : Table) → IsSound table → IsSound other → IsSound (if b then table else other)
  sound_by true table other p q = p
  sound_by false table other p q = q

  sound_after : (s : ℕ → Table) (e : Event Table) → ((c : ℕ) → IsSound (s c))
      → turn (s e.request.caller) e.request.code e.request.body e.outcome → (c : ℕ) → IsSound (tables_after s e c)
  sound_after s e sound t c =
      sound_by (c == e.request.caller) e.outcome.next (s c)
      (keeps.keeps (s e.request.caller) e.request.code e.request.body e.outcome (sound e.request.caller) t) (sound c)

  -- It is impossible that these requests have no run in which every reply fits a frame and none says that an allocation
  -- failed.
  some_events : (s : ℕ → Table) (asked : List Message) → ((c : ℕ) → IsSound (s c)) → AllByRecursion FitsFrame asked
      → ((es : List (Event Table)) → IsRun turn s es → requests es ≡ asked → AllByRecursion FitsFrame (replies_of es)
      → NoneLacks (replies_of es) → ⊥) → ⊥
  some_events s [] sound fits none = none [] tt refl tt tt
  some_events s (m ∷ asked) sound fits none =
      never (s m.caller) m.code m.body (sound m.caller) (λ outcome t. elim (cases_eq outcome.code no_memory) [
        | inl lacks ↦ lacks
        | inr other ↦
            let e : Event Table = record { request = m; outcome = outcome } in
            absurd (some_events (tables_after s e) asked (sound_after s e sound t) fits.1 (λ es run asks told kept.
            none (e ∷ es) (t, run) (ap (λ (ms : List Message). m ∷ ms) asks)
            (reply_fits (s m.caller) m outcome fits.0 t, told) (other, kept)))
      ])

  -- what is written for such a run is served
  pub some_service : OneCut → SomeService
  some_service cut tables given sound bytes none =
      some_events tables (messages_of given) sound (cut.some given bytes).fits (λ es run asks told kept.
      let written : List ℕ = joined (replies_of es) in
      let same : messages_of written ≡ replies_of es = joined_are written (replies_of es) refl told in
      none written
      (record { events = es; is_run = run; asks = asks; fits = told; writes = refl }, subst NoneLacks (sym same) kept))
