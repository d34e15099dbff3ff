-- Each request has some answer. If it takes memory, an allocation failure is one.
use Rattle.std.proofs.Common.{◌≡◌, ◌⊎◌, inr, ◌==◌, ℕ, Bool, true, false, List, [], ◌∷◌, ◌++◌, length, nat_lt, Option}
use Rattle.std.proofs.Common.{Some, None, refl}
use Rattle.std.specs.List.{list_any}
use Rattle.cv_base.specs.declared.policy.Policy.{Policy}
use Rattle.cv_charmap.specs.Meaning.{Charmap}
use Rattle.cv_cache.specs.Compiled.{Compiled, Read, Faulty, Lacking}
use Rattle.cv_pivot.specs.Encodings.{form_closes}
use Rattle.cv_machine.specs.Machine.{IsSomeAnswer, When}
use Rattle.cv_frame.specs.declared.status.Status.TheVariants as status
use Rattle.cv_caller.specs.Tables.{Table, Named, Descriptor, form_in, named_of, place_of, least_place, least_free}
use Rattle.cv_caller.specs.Tables.{descriptor_at, uses}
use Rattle.cv_caller.specs.Results.{is_taken, is_full}
use Rattle.cv_caller.specs.Limits.{most_part}
use Rattle.cv_world.specs.Actions.{Action, Put, DropMap, Open, Conv, Reset, Close, Bye, Part, Bad}
use Rattle.cv_world.specs.Answers.{answer_code, answer_body, most_room}
use Rattle.cv_frame.specs.Ops.{op_put}
use Rattle.cv_world.specs.Requests.{AsksPut, action_of, turn}
use Rattle.cv_world.specs.Turn.{Does, Holds, Puts, Parts, Drops, Binds, Opens, Convs, Resets, Closes, Acts}
use Rattle.cv_world.specs.declared.answer.Answer.{Answer}
use Rattle.cv_world.specs.declared.answer.Answer.TheVariants as answers

-- Some table and some answer are allowed by a relation.
abbrev pub HasSomeAct : (Table → Answer → Type 0) → Type 0
HasSomeAct May = (next : Table) × (answer : Answer) × May next answer

does : (next : Table) (answer : Answer) → HasSomeAct (λ t a. Does t a next answer)
does next answer = (next, answer, (refl, refl))

some_when : (b : Bool) (May Else : Table → Answer → Type 0) → HasSomeAct May → HasSomeAct Else
    → HasSomeAct (λ t a. When b (May t a) (Else t a))
some_when true May Else p q = p
some_when false May Else p q = q

-- an allocation fails
lacks : (table : Table) (May : Table → Answer → Type 0)
    → HasSomeAct (λ t a. May t a ⊎ Does t a table (answers.Refused status.NoMemory))
lacks table May = (table, answers.Refused status.NoMemory, inr (refl, refl))

some_hold : (table : Table) (charmap : Charmap) (place : Option ℕ) → HasSomeAct (Holds table charmap place)
some_hold table charmap None = does _ _
some_hold table charmap (Some place) = lacks table _

some_put : (table : Table) (came : Compiled) → HasSomeAct (Puts table came)
some_put table Lacking = does _ _
some_put table (Faulty fault) = does _ _
some_put table (Read charmap) = some_when (is_taken table.charmaps charmap.name) _ _ (does _ _) (some_when (is_full
    table.charmaps (length charmap.pairs)) _ _ (does _ _) (some_hold table charmap (least_place table.charmaps)))

some_part : (table : Table) (bytes : List ℕ) → HasSomeAct (Parts table bytes)
some_part table [] = does _ _
some_part table (b ∷ bytes) =
    some_when (nat_lt most_part (length (table.part ++ b ∷ bytes))) _ _ (does _ _) (lacks table _)

some_drop : (table : Table) (place : Option ℕ) → HasSomeAct (Drops table place)
some_drop table None = does _ _
some_drop table (Some place) = some_when (list_any (uses place) table.descriptors) _ _ (does _ _) (does _ _)

some_bind : (table : Table) (number : ℕ) (policy : Policy) (to from : Option Named)
    → HasSomeAct (Binds table number policy to from)
some_bind table number policy (Some to) (Some from) = lacks table _
some_bind table number policy (Some to) None = does _ _
some_bind table number policy None from = does _ _

some_open : (table : Table) (number : Option ℕ) (to from : List ℕ) (policy : Policy)
    → HasSomeAct (Opens table number to from policy)
some_open table None to from policy = does _ _
some_open table (Some number) to from policy =
    some_bind table number policy (named_of table.charmaps to) (named_of table.charmaps from)

some_conv : (table : Table) (number : ℕ) (d : Option Descriptor) (room : ℕ) (input : List ℕ)
    → HasSomeAct (Convs table number d room input)
some_conv table number None room input = does _ _
some_conv table number (Some d) room input = some_when (nat_lt most_room room) _ _ (does _ _) (lacks table _)

some_reset : (table : Table) (number : ℕ) (d : Option Descriptor) (room : ℕ) → HasSomeAct (Resets table number d room)
some_reset table number None room = does _ _
some_reset table number (Some d) room =
    some_when (nat_lt most_room room) _ _ (does _ _) (some_when (room == 0) _ _ (does _ _) (some_when
    (nat_lt room (length (form_closes (form_in table.charmaps d.to) d.states.writing))) _ _ (does _ _) (does _ _)))

some_close : (table : Table) (number : ℕ) (d : Option Descriptor) → HasSomeAct (Closes table number d)
some_close table number None = does _ _
some_close table number (Some d) = does _ _

some_act : (table : Table) (action : Action) → HasSomeAct (Acts table action)
some_act table (Put came) = some_put table came
some_act table (DropMap name) = some_drop table (place_of table.charmaps name)
some_act table (Open to from policy) = some_open table (least_free table) to from policy
some_act table (Conv number room input) = some_conv table number (descriptor_at table number) room input
some_act table (Reset number room) = some_reset table number (descriptor_at table number) room
some_act table (Close number) = some_close table number (descriptor_at table number)
some_act table Bye = does _ _
some_act table (Part bytes) = some_part table bytes
some_act table Bad = does _ _

-- A request asks for something.
some_asked : (t : Bool) (text : List ℕ) (other : Action)
    → (action : Action) × When t (AsksPut text action) (action ≡ other)
some_asked true text other = (Put Lacking, record { charmap = Lacking; may = tt; is = refl })
some_asked false text other = (other, refl)

-- Each request has some answer.
pub some_answer : IsSomeAnswer turn
some_answer table code body =
    let asked = some_asked (code == op_put) (table.part ++ body) (action_of code body) in
    let did = some_act table asked.0 in (
      record { next = did.0; code = answer_code did.1; body = answer_body did.1 },
      record { action = asked.0; asks = asked.1; answer = did.1; acts = did.2; code_is = refl; body_is = refl },
    )
