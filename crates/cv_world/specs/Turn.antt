-- What each request may do to its caller's table, and what it answers: the cases in the order of refusal
-- (POSIX iconv_open(), iconv(), iconv_close()).
use Rattle.std.specs.Prelude.{◌≡◌, ◌⊎◌, ℕ, List, [], ◌∷◌, ◌++◌, length, ◌==◌, nat_lt, Option, Some, None}
use Rattle.std.specs.List.{list_any}
use Rattle.cv_base.specs.declared.policy.Policy.{Policy}
use Rattle.cv_cache.specs.Compiled.{Compiled, Read, Faulty, Lacking}
use Rattle.cv_caller.specs.Tables.{Table, Named, Descriptor, empty_table, form_in, named_of, place_of, least_place}
use Rattle.cv_caller.specs.Tables.{least_free, descriptor_at, uses, with_descriptor, with_charmap, with_part}
use Rattle.cv_caller.specs.Results.{is_taken, is_full}
use Rattle.cv_caller.specs.Limits.{most_part}
use Rattle.cv_charmap.specs.Meaning.{Charmap}
use Rattle.cv_pivot.specs.Conversions.{start, Converted, IsConverted}
use Rattle.cv_pivot.specs.Encodings.{form_reads, form_writes, form_closes, IsForm}
use Rattle.cv_pivot.specs.declared.outcome.States.{States}
use Rattle.cv_machine.specs.Machine.{When}
use Rattle.cv_frame.specs.declared.status.Status.{Status}
use Rattle.cv_frame.specs.declared.status.Status.TheVariants as status
use Rattle.cv_world.specs.Actions.{Action, Put, DropMap, Open, Conv, Reset, Close, Bye, Part, Bad}
use Rattle.cv_world.specs.Answers.{most_room}
use Rattle.cv_world.specs.declared.answer.Answer.{Answer}
use Rattle.cv_world.specs.declared.answer.Answer.TheVariants as answers

-- The table after the request, and the answer, are these.
abbrev pub Does : Table → Answer → Table → Answer → Type 0
Does next answer table is = (next ≡ table) × (answer ≡ is)

-- The table stays, and the answer is a refusal.
abbrev pub Refuses : Table → Table → Answer → Status → Type 0
Refuses table next answer s = Does next answer table (answers.Refused s)

-- ---- PUT

-- The charmap is held in the least free slot, and the part of the upload is dropped. If no slot is free, the PUT is
-- refused.
abbrev pub Holds : Table → Charmap → Option ℕ → Table → Answer → Type 0
Holds table charmap None next answer = Refuses table next answer status.Quota
Holds table charmap (Some place) next answer =
    Does next answer (with_part (with_charmap table place (Some charmap)) []) (answers.Count (length charmap.pairs))
    ⊎ Refuses table next answer status.NoMemory

-- The text has to mean a charmap, its name has to be free, and there have to be room for its mappings and a free slot.
abbrev pub Puts : Table → Compiled → Table → Answer → Type 0
Puts table Lacking next answer = Refuses table next answer status.NoMemory
Puts table (Faulty fault) next answer = Does next answer table (answers.BadMap fault)
Puts table (Read charmap) next answer =
    When (is_taken table.charmaps charmap.name) (Refuses table next answer status.Exists) (
    When (is_full table.charmaps (length charmap.pairs)) (Refuses table next answer status.Quota) (
    Holds table charmap (least_place table.charmaps) next answer))

-- ---- PART

-- An empty body drops the part. Any other body is appended to the part, if they are not too long together.
abbrev pub Parts : Table → List ℕ → Table → Answer → Type 0
Parts table [] next answer = Does next answer (with_part table []) (answers.Count 0)
Parts table (b ∷ bytes) next answer =
    When (nat_lt most_part (length (table.part ++ b ∷ bytes))) (Refuses table next answer status.Quota) (
    Does next answer (with_part table (table.part ++ b ∷ bytes)) (answers.Count (length (table.part ++ b ∷ bytes)))
    ⊎ Refuses table next answer status.NoMemory)

-- ---- DROP

-- A charmap has to be held, and no descriptor may read or write it.
abbrev pub Drops : Table → Option ℕ → Table → Answer → Type 0
Drops table None next answer = Refuses table next answer status.NoName
Drops table (Some place) next answer = When (list_any (uses place) table.descriptors)
    (Refuses table next answer status.Busy) (Does next answer (with_charmap table place None) answers.Empty)

-- ---- OPEN

-- The least free number is bound to a new descriptor.
abbrev pub Binds : Table → ℕ → Policy → Option Named → Option Named → Table → Answer → Type 0
Binds table number policy (Some to) (Some from) next answer = Does next answer (with_descriptor table number
    (Some (record { to = to; from = from; policy = policy; states = start }))) (answers.Number number)
    ⊎ Refuses table next answer status.NoMemory
Binds table number policy (Some to) None next answer = Refuses table next answer status.Unsupported
Binds table number policy None from next answer = Refuses table next answer status.Unsupported

-- A number has to be free, and both names have to name encodings.
abbrev pub Opens : Table → Option ℕ → List ℕ → List ℕ → Policy → Table → Answer → Type 0
Opens table None to from policy next answer = Refuses table next answer status.TooManyDescriptors
Opens table (Some number) to from policy next answer =
    Binds table number policy (named_of table.charmaps to) (named_of table.charmaps from) next answer

-- ---- CONV

-- the table with the descriptor in these states
abbrev pub with_states : Table → ℕ → Descriptor → States → Table
with_states table number d states = with_descriptor table number (Some (record d { states = states }))

-- The answer is the longest conversion, and the descriptor keeps its states. A charmap that is read is valid, so that
-- at most one item is next.
pub record IsConversion (table : Table) (number : ℕ) (d : Descriptor) (room : ℕ) (input : List ℕ) (next : Table)
    (answer : Answer) : Type 0 where
  pub is_form : IsForm (form_in table.charmaps d.from)
  pub came : Converted
  pub is_converted : IsConverted (form_reads (form_in table.charmaps d.from))
      (form_writes (form_in table.charmaps d.to)) d.policy d.states input room came
  pub does : Does next answer (with_states table number d came.states)
      (answers.Converted came.stop came.left came.count came.output)

-- The descriptor has to be open, and the room at most 1,000,000.
abbrev pub Convs : Table → ℕ → Option Descriptor → ℕ → List ℕ → Table → Answer → Type 0
Convs table number None room input next answer = Refuses table next answer status.BadDescriptor
Convs table number (Some d) room input next answer =
    When (nat_lt most_room room) (Refuses table next answer status.Room)
    (IsConversion table number d room input next answer ⊎ Refuses table next answer status.NoMemory)

-- ---- RESET

-- Both states go to their start. With room 0 nothing is written; otherwise what closes the target's shift is written,
-- if it fits.
abbrev pub Restarts : Table → ℕ → Descriptor → ℕ → List ℕ → Table → Answer → Type 0
Restarts table number d room closing next answer =
    When (room == 0) (Does next answer (with_states table number d start) (answers.Written [])) (
    When (nat_lt room (length closing)) (Refuses table next answer status.TooBig) (
    Does next answer (with_states table number d start) (answers.Written closing)))

-- The descriptor has to be open, and the room at most 1,000,000.
abbrev pub Resets : Table → ℕ → Option Descriptor → ℕ → Table → Answer → Type 0
Resets table number None room next answer = Refuses table next answer status.BadDescriptor
Resets table number (Some d) room next answer =
    When (nat_lt most_room room) (Refuses table next answer status.Room)
    (Restarts table number d room (form_closes (form_in table.charmaps d.to) d.states.writing) next answer)

-- ---- CLOSE

-- The number is free again.
abbrev pub Closes : Table → ℕ → Option Descriptor → Table → Answer → Type 0
Closes table number None next answer = Refuses table next answer status.BadDescriptor
Closes table number (Some d) next answer = Does next answer (with_descriptor table number None) answers.Empty

-- ---- all of them

-- What an action may lead to: the table after it, and the answer.
abbrev pub Acts : Table → Action → Table → Answer → Type 0
Acts table (Put charmap) next answer = Puts table charmap next answer
Acts table (DropMap name) next answer = Drops table (place_of table.charmaps name) next answer
Acts table (Open to from policy) next answer = Opens table (least_free table) to from policy next answer
Acts table (Conv number room input) next answer = Convs table number (descriptor_at table number) room input next answer
Acts table (Reset number room) next answer = Resets table number (descriptor_at table number) room next answer
Acts table (Close number) next answer = Closes table number (descriptor_at table number) next answer
Acts table Bye next answer = Does next answer empty_table answers.Empty
Acts table (Part bytes) next answer = Parts table bytes next answer
Acts table Bad next answer = Refuses table next answer status.BadRequest
