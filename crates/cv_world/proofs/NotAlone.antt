-- At a sound table, an allocation failure is never the only outcome that a request may have.
use Rattle.std.proofs.Common.{◌≡◌, ◌≢◌, ◌<◌, ◌≤◌, ◌⊎◌, inl, ◌+◌, ◌-◌, ◌==◌, ℕ, zero, suc, Bool, true, false, List, []}
use Rattle.std.proofs.Common.{◌∷◌, ◌++◌, length, drop, nat_lt, Option, Some, None, refl, arith, Result, Ok, Err}
use Rattle.std.specs.Prelude.{is_some, IfSome}
use Rattle.std.specs.List.{list_any}
use Rattle.std.proofs.lemmas.Bool.Decides.{nat_tests}
use Rattle.std.proofs.lemmas.List.{length-drop}
use Rattle.cv_base.specs.Items.{Taken, ItemRelation, NoneStands}
use Rattle.cv_base.specs.Codecs.{Writing, IsReadable}
use Rattle.cv_base.specs.Chains.{IsChain, used_bytes, read_state, output_of}
use Rattle.cv_base.specs.Policies.{Allows}
use Rattle.cv_base.specs.declared.policy.Policy.{Policy}
use Rattle.cv_base.specs.declared.policy.Policy.TheVariants as policies
use Rattle.cv_base.specs.declared.state.ReadState.{ReadState}
use Rattle.cv_base.proofs.Front.{stands_within}
use Rattle.cv_charmap.specs.Maps.{IsMap}
use Rattle.cv_charmap.specs.Meaning.{Charmap, meaning}
use Rattle.cv_charmap.specs.declared.fault.MapFault.{MapFault}
use Rattle.cv_cache.specs.Compiled.{Compiled, Read, Faulty, Lacking, MayCompile}
use Rattle.cv_pivot.specs.Conversions.{Converted, IsConverted, IsLongest, StopsAt}
use Rattle.cv_pivot.specs.Encodings.{IsForm, form_reads, form_writes, form_closes}
use Rattle.cv_pivot.proofs.EncodingLaws.{form_readable}
use Rattle.cv_pivot.specs.declared.outcome.States.{States}
use Rattle.cv_pivot.specs.declared.outcome.Stop.{Stop}
use Rattle.cv_pivot.specs.declared.outcome.Stop.TheVariants as stop
use Rattle.cv_machine.specs.Machine.{When, no_memory}
use Rattle.cv_frame.specs.declared.status.Status.TheVariants as status
use Rattle.cv_caller.specs.Tables.{Table, Named, BuiltIn, Held, Descriptor, charmap_at, pairs_in, form_in, named_of}
use Rattle.cv_caller.specs.Tables.{place_of, least_place, least_free, descriptor_at, uses}
use Rattle.cv_caller.specs.Results.{is_taken, is_full}
use Rattle.cv_caller.specs.Limits.{most_part}
use Rattle.cv_world.specs.Actions.{Action, Put, DropMap, Open, Conv, Reset, Close, Bye, Part, Bad}
use Rattle.cv_world.specs.Answers.{answer_code, answer_body, most_room}
use Rattle.cv_world.specs.Laws.{IsThere, AreThere, IsSound, NeverLacksAlone}
use Rattle.cv_frame.specs.Ops.{op_put}
use Rattle.cv_world.specs.Requests.{AsksPut, action_of}
use Rattle.cv_world.specs.Turn.{Does, Holds, Puts, Parts, Drops, Binds, Opens, IsConversion, Convs, Resets, Closes}
use Rattle.cv_world.specs.Turn.{Acts}
use Rattle.cv_world.specs.declared.answer.Answer.{Answer}
use Rattle.cv_world.specs.declared.answer.Answer.TheVariants as answers
use Rattle.cv_world.proofs.OneAnswer.{other_code}
use Rattle.cv_world.proofs.OtherOps.{not_put}

-- ---- there is a longest conversion

-- A conversion stops for some reason.
stops : (reads : ItemRelation) (writes : Writing) (policy : Policy) (states : States) (rest : List ℕ)
    → ((s : Stop) → StopsAt reads writes policy states rest s → ⊥) → ⊥
stops reads writes policy states [] never = never stop.Done refl
stops reads writes policy states (b ∷ rest) never =
    let none : NoneStands reads states.reading (b ∷ rest) = λ item stands. never stop.Lacking (record {
      next = item;
      stands = stands;
      lacking = λ allowed. never stop.TooBig (record { next = item; stands = stands; allowed = allowed });
    }) in
    let some : 0 < length (b ∷ rest) = omega arith in
    never stop.Ill (some, none, λ grows. never stop.Incomplete (some, none, grows))

-- A chain has no more items than bytes, and no more bytes than the text.
within : (reads : ItemRelation) → IsReadable reads → (s : ReadState) (text : List ℕ) (chain : List Taken)
    → IsChain reads s text chain → (length chain ≤ used_bytes chain) × (used_bytes chain ≤ length text)
within reads r s text [] p = (omega arith, omega arith)
within reads r s text (i ∷ chain) p =
    let first = stands_within reads r s text i p.0 in
    let others = within reads r i.next (drop i.used text) chain p.1 in
    let size = length-drop i.used text in
    (omega (arith, first.0, others.0), omega (arith, first.1, others.1, size))

below_or : (b : Bool) (m n : ℕ) → nat_lt n m ≡ b → (n < m → ⊥) → m ≤ n
below_or true m n e never = absurd (never (grind (arith, nat_tests, e)))
below_or false m n e never = grind (arith, nat_tests, e)

not_below : (m n : ℕ) → (n < m → ⊥) → m ≤ n
not_below m n never = below_or (nat_lt n m) m n refl never

-- Longer and longer chains would have more items than the text has bytes.
no_chain : (reads : ItemRelation) (writes : Writing) (policy : Policy) → IsReadable reads → (from : States)
    (text : List ℕ) (room : ℕ) → ((c : Converted) → IsConverted reads writes policy from text room c → ⊥) → (n : ℕ)
    (chain : List Taken) → IsChain reads from.reading text chain → length (output_of writes from.writing chain).bytes
    ≤ room → Allows policy (output_of writes from.writing chain) → length text < length chain + n → ⊥
no_chain reads writes policy r from text room none zero chain is fits allowed few =
    let w = within reads r from.reading text chain is in omega (arith, w.0, w.1, few)
no_chain reads writes policy r from text room none (suc n) chain is fits allowed few =
    let no_longer : (other : List Taken) → IsChain reads from.reading text other
    → length (output_of writes from.writing other).bytes ≤ room → Allows policy (output_of writes from.writing other)
    → length chain < length other → ⊥ =
    λ other p q a h. no_chain reads writes policy r from text room none n other p q a (omega (arith, few, h)) in
    let longest : IsLongest reads writes policy from.reading from.writing text room chain = record {
      is_chain = is;
      fits = fits;
      allowed = allowed;
      longest = λ other p q a. not_below _ _ (no_longer other p q a);
    } in
    let used = (within reads r from.reading text chain is).1 in
    let states : States =
    record { reading = read_state from.reading chain; writing = (output_of writes from.writing chain).next } in
    stops reads writes policy states (drop (used_bytes chain) text) (λ s h. none (record {
      left = length text - used_bytes chain;
      count = (output_of writes from.writing chain).count;
      stop = s;
      output = (output_of writes from.writing chain).bytes;
      states = states;
    }) (record {
      chain = chain;
      longest = longest;
      left = omega (arith, used);
      stop = h;
      count = refl;
      output = refl;
      reading = refl;
      writing = refl;
    }))

allowed_none : (policy : Policy) (writes : Writing) (from : States) → Allows policy (output_of writes from.writing [])
allowed_none policies.Substitute writes from = tt
allowed_none policies.Strict writes from = refl

-- It is impossible that no longest conversion exists.
converts : (reads : ItemRelation) (writes : Writing) (policy : Policy) → IsReadable reads → (from : States)
    (text : List ℕ) (room : ℕ) → ((c : Converted) → IsConverted reads writes policy from text room c → ⊥) → ⊥
converts reads writes policy r from text room none = no_chain reads writes policy r from text room none
    (length text + 1) [] tt (omega arith) (allowed_none policy writes from) (omega arith)

-- ---- each action

-- An allocation failure cannot be all that a relation allows.
abbrev pub NotAlone : (Table → Answer → Type 0) → Type 0
NotAlone May = ((t : Table) (a : Answer) → May t a → answer_code a ≡ no_memory) → ⊥

does : (next : Table) (answer : Answer) → answer_code answer ≢ no_memory → NotAlone (λ t a. Does t a next answer)
does next answer other all = other (all next answer (refl, refl))

beside : (table : Table) (May : Table → Answer → Type 0) → NotAlone May
    → NotAlone (λ t a. May t a ⊎ Does t a table (answers.Refused status.NoMemory))
beside table May h all = h (λ t a m. all t a (inl m))

by_test : (b : Bool) (May Else : Table → Answer → Type 0) → NotAlone May → NotAlone Else
    → NotAlone (λ t a. When b (May t a) (Else t a))
by_test true May Else p q = p
by_test false May Else p q = q

holds : (table : Table) (charmap : Charmap) (place : Option ℕ) → NotAlone (Holds table charmap place)
holds table charmap None = does _ _ (λ e. absurd cc)
holds table charmap (Some place) = beside table _ (does _ _ (λ e. absurd cc))

puts : (table : Table) (came : Compiled) → came ≢ Lacking → NotAlone (Puts table came)
puts table Lacking other = absurd (other refl)
puts table (Faulty fault) other = does _ _ (λ e. absurd cc)
puts table (Read charmap) other =
    by_test (is_taken table.charmaps charmap.name) _ _ (does _ _ (λ e. absurd cc)) (by_test (is_full table.charmaps
    (length charmap.pairs)) _ _ (does _ _ (λ e. absurd cc)) (holds table charmap (least_place table.charmaps)))

parts : (table : Table) (bytes : List ℕ) → NotAlone (Parts table bytes)
parts table [] = does _ _ (λ e. absurd cc)
parts table (b ∷ bytes) = by_test (nat_lt most_part (length (table.part ++ b ∷ bytes))) _ _ (does _ _ (λ e. absurd cc))
    (beside table _ (does _ _ (λ e. absurd cc)))

drops : (table : Table) (place : Option ℕ) → NotAlone (Drops table place)
drops table None = does _ _ (λ e. absurd cc)
drops table (Some place) =
    by_test (list_any (uses place) table.descriptors) _ _ (does _ _ (λ e. absurd cc)) (does _ _ (λ e. absurd cc))

binds : (table : Table) (number : ℕ) (policy : Policy) (to from : Option Named)
    → NotAlone (Binds table number policy to from)
binds table number policy (Some to) (Some from) = beside table _ (does _ _ (λ e. absurd cc))
binds table number policy (Some to) None = does _ _ (λ e. absurd cc)
binds table number policy None from = does _ _ (λ e. absurd cc)

opens : (table : Table) (number : Option ℕ) (to from : List ℕ) (policy : Policy)
    → NotAlone (Opens table number to from policy)
opens table None to from policy = does _ _ (λ e. absurd cc)
opens table (Some number) to from policy =
    binds table number policy (named_of table.charmaps to) (named_of table.charmaps from)

map_there : (held : Option Charmap) → is_some held ≡ true → IfSome held (λ charmap. IsMap charmap.pairs)
    → IsMap (pairs_in held)
map_there (Some charmap) h is = is
map_there None h is = absurd cc

-- an encoding that a sound table names has a form
pub form_there : (table : Table) → IsSound table → (named : Named) → IsThere table.charmaps named
    → IsForm (form_in table.charmaps named)
form_there table is (BuiltIn builtin) h = tt
form_there table is (Held place) h = map_there (charmap_at table.charmaps place) h (is.is_table.charmaps.maps place)

conversion : (table : Table) → IsSound table → (number : ℕ) (d : Descriptor) → AreThere table.charmaps d
    → (room : ℕ) (input : List ℕ) → NotAlone (IsConversion table number d room input)
conversion table is number d h room input all =
    let form : IsForm (form_in table.charmaps d.from) = form_there table is d.from h.1 in
    converts (form_reads (form_in table.charmaps d.from)) (form_writes (form_in table.charmaps d.to)) d.policy
    (form_readable _ form) d.states input room (λ c came.
    other_code c.stop (all _ _ (record { is_form = form; came = c; is_converted = came; does = (refl, refl) })))

convs : (table : Table) → IsSound table → (number : ℕ) (d : Option Descriptor) → IfSome d (AreThere table.charmaps)
    → (room : ℕ) (input : List ℕ) → NotAlone (Convs table number d room input)
convs table is number None h room input = does _ _ (λ e. absurd cc)
convs table is number (Some d) h room input = by_test (nat_lt most_room room) _ _ (does _ _ (λ e. absurd cc))
    (beside table _ (conversion table is number d h room input))

resets : (table : Table) (number : ℕ) (d : Option Descriptor) (room : ℕ) → NotAlone (Resets table number d room)
resets table number None room = does _ _ (λ e. absurd cc)
resets table number (Some d) room = by_test (nat_lt most_room room) _ _ (does _ _ (λ e. absurd cc))
    (by_test (room == 0) _ _ (does _ _ (λ e. absurd cc)) (by_test (nat_lt room (length (form_closes
    (form_in table.charmaps d.to) d.states.writing))) _ _ (does _ _ (λ e. absurd cc)) (does _ _ (λ e. absurd cc))))

closes : (table : Table) (number : ℕ) (d : Option Descriptor) → NotAlone (Closes table number d)
closes table number None = does _ _ (λ e. absurd cc)
closes table number (Some d) = does _ _ (λ e. absurd cc)

acts : (table : Table) → IsSound table → (action : Action) → action ≢ Put Lacking → NotAlone (Acts table action)
acts table is (Put came) other = puts table came (λ e. other (rw e refl))
acts table is (DropMap name) other = drops table (place_of table.charmaps name)
acts table is (Open to from policy) other = opens table (least_free table) to from policy
acts table is (Conv number room input) other =
    convs table is number (descriptor_at table number) (is.there number) room input
acts table is (Reset number room) other = resets table number (descriptor_at table number) room
acts table is (Close number) other = closes table number (descriptor_at table number)
acts table is Bye other = does _ _ (λ e. absurd cc)
acts table is (Part bytes) other = parts table bytes
acts table is Bad other = does _ _ (λ e. absurd cc)

-- ---- and each request

-- An allocation failure is not the only result of compiling a text.
compiles : (text : List ℕ) (r : Result Charmap MapFault) → meaning text ≡ r
    → (came : Compiled) × MayCompile text came × (came ≢ Lacking)
compiles text (Ok charmap) e = (Read charmap, e, λ h. absurd cc)
compiles text (Err fault) e = (Faulty fault, e, λ h. absurd cc)

other_put : (came : Compiled) → came ≢ Lacking → Put came ≢ Put Lacking
other_put came other e = other cc

asks : (t : Bool) (text : List ℕ) (other : Action) → other ≢ Put Lacking
    → (action : Action) × When t (AsksPut text action) (action ≡ other) × (action ≢ Put Lacking)
asks true text other h =
    let came = compiles text (meaning text) refl in
    (Put came.0, record { charmap = came.0; may = came.1; is = refl }, other_put came.0 came.2)
asks false text other h = (other, refl, h)

-- At a sound table, an allocation failure is never the only outcome that a request may have.
pub never_lacks_alone : NeverLacksAlone
never_lacks_alone table code body is all =
    let asked = asks (code == op_put) (table.part ++ body) (action_of code body) (not_put code body Lacking) in
    acts table is asked.0 asked.2 (λ t a h. all (record { next = t; code = answer_code a; body = answer_body a })
    (record { action = asked.0; asks = asked.1; answer = a; acts = h; code_is = refl; body_is = refl }))
