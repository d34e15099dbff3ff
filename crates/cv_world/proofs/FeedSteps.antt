-- One request keeps a feed, whatever it asks and however it is answered.
use Rattle.std.proofs.Common.{◌≡◌, ◌<◌, ◌≤◌, ◌^◌, ◌==◌, ℕ, Bool, true, false, List, [], ◌∷◌, ◌++◌, length, nat_lt}
use Rattle.std.proofs.Common.{slice_set, Option, Some, None, refl, sym, subst, arith}
use Rattle.std.specs.Prelude.{is_none, IfSome, if◌then◌else◌}
use Rattle.std.specs.Int.{w32, to_be_bytes}
use Rattle.std.specs.List.{list_any}
use Rattle.std.proofs.lemmas.Bool.{eqb-true, or_parts}
use Rattle.std.proofs.lemmas.Bool.Decides.{nat_tests}
use Rattle.std.proofs.lemmas.List.Quantifiers.{position-Some}
use Rattle.cv_base.specs.declared.policy.Policy.{Policy}
use Rattle.cv_charmap.specs.Meaning.{Charmap}
use Rattle.cv_cache.specs.Compiled.{Compiled, Read, Faulty, Lacking}
use Rattle.cv_pivot.specs.Conversions.{start}
use Rattle.cv_pivot.specs.Cuts.{Call}
use Rattle.cv_pivot.specs.Encodings.{form_closes}
use Rattle.cv_pivot.specs.declared.outcome.Stop.{Stop}
use Rattle.cv_frame.specs.Bodies.{u32_of}
use Rattle.cv_frame.specs.Sizes.{most_body}
use Rattle.cv_frame.proofs.ReadBack.{read_back}
use Rattle.cv_machine.specs.Machine.{Outcome}
use Rattle.cv_caller.specs.Tables.{Charmaps, Table, Named, Descriptor, form_in, charmap_at, named_of, place_of}
use Rattle.cv_caller.specs.Tables.{least_place, least_free, descriptor_at, uses, with_descriptor, with_charmap}
use Rattle.cv_caller.specs.Tables.{with_part}
use Rattle.cv_caller.specs.Results.{is_taken, is_full}
use Rattle.cv_caller.specs.Limits.{most_part}
use Rattle.cv_caller.proofs.Standing.{found_free}
use Rattle.cv_world.specs.Actions.{Action, Put, DropMap, Open, Conv, Reset, Close, Bye, Part, Bad}
use Rattle.cv_world.specs.Answers.{answer_code, answer_body, most_room}
use Rattle.cv_world.specs.Feeds.{is_number, call_of, with_stop, calls_after}
use Rattle.cv_world.specs.Laws.{AreThere, IsSound}
use Rattle.cv_world.specs.Turn.{Does, Holds, Puts, Parts, Drops, Binds, Opens, IsConversion, Convs, Resets, Closes}
use Rattle.cv_world.specs.Turn.{Acts, with_states}
use Rattle.cv_world.specs.declared.answer.Answer.{Answer}
use Rattle.cv_world.specs.declared.answer.Answer.TheVariants as answers
use Rattle.cv_world.proofs.FormsStay.{put_stays, drop_stays}
use Rattle.cv_world.proofs.FedCalls.{IsFedBy, Keeps, answer_of, none_fed, same_forms, other_number, this_number}
use Rattle.cv_world.proofs.FedCalls.{one_more, stop_back, call_back}
use Rattle.cv_world.proofs.KeepsTables.{by_test, either, none_standing, none_uses}

-- the outcome of an action that led to this table and this answer
abbrev pub came_to : Table → Answer → Outcome Table
came_to next answer = record { next = next; code = answer_code answer; body = answer_body answer }

-- An action that led to this table and this answer keeps the feed.
abbrev pub KeepsBy : ℕ → List Call → Action → Table → Answer → Type 0
KeepsBy number calls action next answer = Keeps next number (calls_after number calls action (came_to next answer))

does : (number : ℕ) (calls : List Call) (action : Action) (next : Table) (answer : Answer) → KeepsBy number calls action
    next answer → (t : Table) (a : Answer) → Does t a next answer → KeepsBy number calls action t a
does number calls action next answer h t a d = subst (λ (x : Table). KeepsBy number calls action x a) (sym d.0)
    (subst (λ (x : Answer). KeepsBy number calls action next x) (sym d.1) h)

-- by a test whether a request names the number
named : (b : Bool) (P : List Call → Type 0) (x y : List Call) → (b ≡ true → P x) → (b ≡ false → P y)
    → P (if b then x else y)
named true P x y f g = f refl
named false P x y f g = g refl

other : (n number : ℕ) → (n == number) ≡ false → (number == n) ≡ false
other n number e = grind (arith, nat_tests, e)

-- ---- charmaps

-- the feed is kept with other charmaps in which the encodings of the descriptor have the same forms
with_forms : (charmaps others : Charmaps) (calls : List Call) (o : Option Descriptor)
    → IfSome o (λ d. (form_in others d.from ≡ form_in charmaps d.from) × (form_in others d.to ≡ form_in charmaps d.to))
    → IfSome o (λ d. IsFedBy charmaps d calls) → IfSome o (λ d. IsFedBy others d calls)
with_forms charmaps others calls None e p = tt
with_forms charmaps others calls (Some d) e p = same_forms charmaps others d calls e.0 e.1 p

put_forms : (charmaps : Charmaps) (place : ℕ) (x : Option Charmap) → charmap_at charmaps place ≡ None
    → (o : Option Descriptor) → IfSome o (AreThere charmaps) → IfSome o (λ d. (form_in (slice_set charmaps place x)
    d.from ≡ form_in charmaps d.from) × (form_in (slice_set charmaps place x) d.to ≡ form_in charmaps d.to))
put_forms charmaps place x free None h = tt
put_forms charmaps place x free (Some d) h =
    (put_stays charmaps place x free d.from h.1, put_stays charmaps place x free d.to h.0)

drop_forms : (charmaps : Charmaps) (place : ℕ) (o : Option Descriptor) → uses place o ≡ false
    → IfSome o (λ d. (form_in (slice_set charmaps place None) d.from ≡ form_in charmaps d.from)
    × (form_in (slice_set charmaps place None) d.to ≡ form_in charmaps d.to))
drop_forms charmaps place None h = tt
drop_forms charmaps place (Some d) h =
    (drop_stays charmaps place d.from ((or_parts _ _ h).1), drop_stays charmaps place d.to ((or_parts _ _ h).0))

step_hold : (table : Table) → IsSound table → (number : ℕ) (calls : List Call) → Keeps table number calls
    → (came : Compiled) (charmap : Charmap) (place : Option ℕ) → IfSome place (λ p. charmap_at table.charmaps p ≡ None)
    → (t : Table) (a : Answer) → Holds table charmap place t a → KeepsBy number calls (Put came) t a
step_hold table is number calls kept came charmap None free t a d = does number calls (Put came) table _ kept t a d
step_hold table is number calls kept came charmap (Some place) free t a d =
    let forms = put_forms table.charmaps place (Some charmap) free (descriptor_at table number) (is.there number) in
    either _ _ _
    (does number calls (Put came) _ _ (with_forms table.charmaps _ calls (descriptor_at table number) forms kept) t a)
    (does number calls (Put came) table _ kept t a) d

step_put : (table : Table) → IsSound table → (number : ℕ) (calls : List Call) → Keeps table number calls
    → (asked came : Compiled) → (t : Table) (a : Answer) → Puts table came t a → KeepsBy number calls (Put asked) t a
step_put table is number calls kept asked Lacking t a d = does number calls (Put asked) table _ kept t a d
step_put table is number calls kept asked (Faulty fault) t a d = does number calls (Put asked) table _ kept t a d
step_put table is number calls kept asked (Read charmap) t a d = by_test (is_taken table.charmaps charmap.name) _ _ _
    (does number calls (Put asked) table _ kept t a) (λ _. by_test (is_full table.charmaps (length charmap.pairs)) _ _ _
    (does number calls (Put asked) table _ kept t a) (λ _. step_hold table is number calls kept asked charmap
    (least_place table.charmaps) (found_free table.charmaps (least_place table.charmaps) refl) t a)) d

step_part : (table : Table) (number : ℕ) (calls : List Call) → Keeps table number calls
    → (asked bytes : List ℕ) (t : Table) (a : Answer) → Parts table bytes t a → KeepsBy number calls (Part asked) t a
step_part table number calls kept asked [] t a d = does number calls (Part asked) (with_part table []) _ kept t a d
step_part table number calls kept asked (b ∷ bytes) t a d = by_test
    (nat_lt most_part (length (table.part ++ b ∷ bytes))) _ _ _ (does number calls (Part asked) table _ kept t a) (λ _.
    either _ _ _ (does number calls (Part asked) (with_part table (table.part ++ b ∷ bytes)) _ kept t a)
    (does number calls (Part asked) table _ kept t a)) d

step_drop : (table : Table) (number : ℕ) (calls : List Call) → Keeps table number calls → (name : List ℕ)
    (place : Option ℕ) (t : Table) (a : Answer) → Drops table place t a → KeepsBy number calls (DropMap name) t a
step_drop table number calls kept name None t a d = does number calls (DropMap name) table _ kept t a d
step_drop table number calls kept name (Some place) t a d =
    by_test (list_any (uses place) table.descriptors) _ _ _ (does number calls (DropMap name) table _ kept t a) (λ idle.
    let forms =
    drop_forms table.charmaps place (descriptor_at table number) (none_uses place table.descriptors idle number) in
    does number calls (DropMap name) (with_charmap table place None) _
    (with_forms table.charmaps _ calls (descriptor_at table number) forms kept) t a) d

-- ---- descriptors

number_back : (n : ℕ) → n < 2 ^ 32 → u32_of (to_be_bytes w32 n) ≡ Some n
number_back n low = read_back.closes n low

-- a new descriptor is bound to a number
bound : (table : Table) (number : ℕ) (calls : List Call) → Keeps table number calls → (n : ℕ) → n < 2 ^ 32
    → (d : Descriptor) → d.states ≡ start → Keeps (with_descriptor table n (Some d)) number
    (if is_number number (u32_of (to_be_bytes w32 n)) then [] else calls)
bound table number calls kept n low d e = subst (λ (o : Option ℕ). Keeps (with_descriptor table n (Some d)) number
    (if is_number number o then [] else calls)) (sym (number_back n low)) (
    named (n == number) (Keeps (with_descriptor table n (Some d)) number) [] calls (λ same. subst
    (λ (k : ℕ). Keeps (with_descriptor table n (Some d)) k []) (eqb-true n number same) (this_number table n (Some d) []
    (none_fed table.charmaps d e))) (λ differ. other_number table n number (Some d) calls (other n number differ) kept))

step_bind : (table : Table) (number : ℕ) (calls : List Call) → Keeps table number calls → (n : ℕ) → n < 2 ^ 32
    → (to_name from_name : List ℕ) (policy : Policy) (to from : Option Named) → (t : Table) (a : Answer)
    → Binds table n policy to from t a → KeepsBy number calls (Open to_name from_name policy) t a
step_bind table number calls kept n low to_name from_name policy (Some to) (Some from) t a d =
    either _ _ _ (does number calls (Open to_name from_name policy) _ (answers.Number n)
    (bound table number calls kept n low (record { to = to; from = from; policy = policy; states = start }) refl) t a)
    (does number calls (Open to_name from_name policy) table _ kept t a) d
step_bind table number calls kept n low to_name from_name policy (Some to) None t a d =
    does number calls (Open to_name from_name policy) table _ kept t a d
step_bind table number calls kept n low to_name from_name policy None from t a d =
    does number calls (Open to_name from_name policy) table _ kept t a d

step_open : (table : Table) → IsSound table → (number : ℕ) (calls : List Call) → Keeps table number calls
    → (free : Option ℕ) → free ≡ least_free table → (to from : List ℕ) (policy : Policy)
    → (t : Table) (a : Answer) → Opens table free to from policy t a → KeepsBy number calls (Open to from policy) t a
step_open table is number calls kept None e to from policy t a d =
    does number calls (Open to from policy) table _ kept t a d
step_open table is number calls kept (Some n) e to from policy t a d =
    let low = (position-Some is_none table.descriptors n None (sym e)).0 in
    step_bind table number calls kept n (omega (arith, low, is.is_table.numbers)) to from policy
    (named_of table.charmaps to) (named_of table.charmaps from) t a d

-- a request that names a number, and is refused
refused : (number n : ℕ) (table : Table) (calls : List Call) → Keeps table number calls
    → Keeps table number (if n == number then calls else calls)
refused number n table calls kept = named (n == number) (Keeps table number) calls calls (λ _. kept) (λ _. kept)

-- the call that a conversion which stopped adds to those of its own number
called : (table : Table) (n : ℕ) (calls : List Call) → Keeps table n calls → (room : ℕ) (input : List ℕ)
    → length input ≤ most_body → (d : Descriptor) → descriptor_at table n ≡ Some d → (t : Table) (a : Answer)
    (c : IsConversion table n d room input t a) → Keeps (with_states table n d c.came.states) n
    (calls ++ call_of n room input c.came.stop (came_to (with_states table n d c.came.states) (answer_of c.came)) ∷ [])
called table n calls kept room input few d is_open t a c =
    let next : Table = with_states table n d c.came.states in
    let call : Call = record { input = input; room = room; came = c.came } in
    let fed : IsFedBy table.charmaps d calls =
    subst (λ (o : Option Descriptor). IfSome o (λ x. IsFedBy table.charmaps x calls)) is_open kept in
    let more : Keeps next n (calls ++ call ∷ []) = this_number table n (Some (record d { states = c.came.states }))
    (calls ++ call ∷ []) (one_more table.charmaps d calls call fed c.is_converted) in
    subst (λ (x : Call). Keeps next n (calls ++ x ∷ [])) (sym (call_back table n room input d t a is_open few c)) more

-- a conversion that stopped, of whatever number
converted : (table : Table) (number : ℕ) (calls : List Call) → Keeps table number calls → (n room : ℕ) (input : List ℕ)
    → length input ≤ most_body → (d : Descriptor) → descriptor_at table n ≡ Some d
    → (t : Table) (a : Answer) (c : IsConversion table n d room input t a)
    → KeepsBy number calls (Conv n room input) (with_states table n d c.came.states) (answer_of c.came)
converted table number calls kept n room input few d is_open t a c =
    let next : Table = with_states table n d c.came.states in
    let outcome = came_to next (answer_of c.came) in
    let this : (n == number) ≡ true
    → Keeps next number (calls ++ call_of number room input c.came.stop outcome ∷ []) = λ same.
    let is : n ≡ number = eqb-true n number same in
    let here : Keeps table n calls = subst (λ (k : ℕ). Keeps table k calls) (sym is) kept in
    subst (λ (k : ℕ). Keeps next k (calls ++ call_of k room input c.came.stop outcome ∷ [])) is
    (called table n calls here room input few d is_open t a c) in
    let differs : (n == number) ≡ false → Keeps next number calls = λ differ.
    other_number table n number (Some (record d { states = c.came.states })) calls (other n number differ) kept in
    subst (λ (why : Option Stop). Keeps next number (if n == number then with_stop number room input calls outcome why
    else calls)) (sym (stop_back c.came.stop)) (named (n == number) (Keeps next number)
    (calls ++ call_of number room input c.came.stop outcome ∷ []) calls this differs)

step_conv : (table : Table) (number : ℕ) (calls : List Call) → Keeps table number calls → (n room : ℕ) (input : List ℕ)
    → length input ≤ most_body → (o : Option Descriptor) → descriptor_at table n ≡ o
    → (t : Table) (a : Answer) → Convs table n o room input t a → KeepsBy number calls (Conv n room input) t a
step_conv table number calls kept n room input few None is_open t a d =
    does number calls (Conv n room input) table _ (refused number n table calls kept) t a d
step_conv table number calls kept n room input few (Some o) is_open t a d = by_test (nat_lt most_room room) _ _ _
    (does number calls (Conv n room input) table _ (refused number n table calls kept) t a) (λ _. either _ _ _
    (λ c. does number calls (Conv n room input) _ _ (converted table number calls kept n room input few o is_open t a c)
    t a c.does) (does number calls (Conv n room input) table _ (refused number n table calls kept) t a)) d

-- a descriptor that is at its start again
restarted : (table : Table) (number : ℕ) (calls : List Call) → Keeps table number calls → (n : ℕ) (d : Descriptor)
    → Keeps (with_states table n d start) number (if n == number then [] else calls)
restarted table number calls kept n d =
    let again : Descriptor = record d { states = start } in
    named (n == number) (Keeps (with_states table n d start) number) [] calls
    (λ same. subst (λ (k : ℕ). Keeps (with_states table n d start) k []) (eqb-true n number same)
    (this_number table n (Some again) [] (none_fed table.charmaps again refl)))
    (λ differ. other_number table n number (Some again) calls (other n number differ) kept)

step_reset : (table : Table) (number : ℕ) (calls : List Call) → Keeps table number calls
    → (n room : ℕ) (o : Option Descriptor) (t : Table) (a : Answer) → Resets table n o room t a
    → KeepsBy number calls (Reset n room) t a
step_reset table number calls kept n room None t a d = does number calls (Reset n room) table _ kept t a d
step_reset table number calls kept n room (Some o) t a d = by_test (nat_lt most_room room) _ _ _
    (does number calls (Reset n room) table _ kept t a) (λ _. by_test (room == 0) _ _ _ (does number calls
    (Reset n room) _ _ (restarted table number calls kept n o) t a) (λ _. by_test (nat_lt room (length (form_closes
    (form_in table.charmaps o.to) o.states.writing))) _ _ _ (does number calls (Reset n room) table _ kept t a) (λ _.
    does number calls (Reset n room) _ _ (restarted table number calls kept n o) t a))) d

step_close : (table : Table) (number : ℕ) (calls : List Call) → Keeps table number calls → (n : ℕ)
    (o : Option Descriptor) (t : Table) (a : Answer) → Closes table n o t a → KeepsBy number calls (Close n) t a
step_close table number calls kept n None t a d = does number calls (Close n) table _ kept t a d
step_close table number calls kept n (Some o) t a d =
    let next : Table = with_descriptor table n None in
    does number calls (Close n) next answers.Empty (named (n == number) (Keeps next number) [] calls
    (λ same. subst (λ (k : ℕ). Keeps next k []) (eqb-true n number same) (this_number table n None [] tt))
    (λ differ. other_number table n number None calls (other n number differ) kept)) t a d

-- ---- all of them

-- The input of a CONV is no longer than the body of a frame.
abbrev pub InputFits : Action → Type 0
InputFits (Conv n room input) = length input ≤ most_body
InputFits others = Unit {0}

-- Every action keeps a feed, whatever its answer is.
pub step : (table : Table) → IsSound table → (number : ℕ) (calls : List Call) → Keeps table number calls
    → (action : Action) → InputFits action → (t : Table) (a : Answer) → Acts table action t a
    → KeepsBy number calls action t a
step table is number calls kept (Put came) few t a d = step_put table is number calls kept came came t a d
step table is number calls kept (DropMap name) few t a d =
    step_drop table number calls kept name (place_of table.charmaps name) t a d
step table is number calls kept (Open to from policy) few t a d =
    step_open table is number calls kept (least_free table) refl to from policy t a d
step table is number calls kept (Conv n room input) few t a d =
    step_conv table number calls kept n room input few (descriptor_at table n) refl t a d
step table is number calls kept (Reset n room) few t a d =
    step_reset table number calls kept n room (descriptor_at table n) t a d
step table is number calls kept (Close n) few t a d = step_close table number calls kept n (descriptor_at table n) t a d
step table is number calls kept Bye few t a d = does number calls Bye _ _ (none_standing _ 16 number) t a d
step table is number calls kept (Part bytes) few t a d = step_part table number calls kept bytes bytes t a d
step table is number calls kept Bad few t a d = does number calls Bad table _ kept t a d
