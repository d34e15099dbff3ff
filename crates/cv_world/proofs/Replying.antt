-- Replies that are written after others.
use Rattle.std.proofs.Common.{◌≡◌, ℕ, ◌≤◌, ◌<◌, ◌^◌, Bool, true, false, List, [], ◌∷◌, ◌++◌, length, Option, Some}
use Rattle.std.proofs.Common.{None, refl, sym, subst, arith, inl, inr}
use Rattle.std.specs.Prelude.{nat_lt, ◌==◌}
use Rattle.std.specs.List.{list_any}
use Rattle.cv_caller.specs.Tables.{Table, Descriptor, Named, place_of, descriptor_at, uses, named_of, least_free}
use Rattle.cv_caller.specs.Tables.{least_place, form_in}
use Rattle.cv_caller.specs.Results.{is_taken, is_full}
use Rattle.cv_caller.specs.Limits.{most_part}
use Rattle.cv_cache.specs.Compiled.{Compiled, Read, Faulty, Lacking}
use Rattle.cv_base.specs.declared.policy.Policy.{Policy}
use Rattle.cv_charmap.specs.Meaning.{Charmap}
use Rattle.cv_pivot.specs.Encodings.{form_closes}
use Rattle.cv_frame.specs.Message.{FitsFrame}
use Rattle.cv_frame.specs.Status.{status_number}
use Rattle.cv_frame.specs.declared.status.Status.{Status}
use Rattle.cv_frame.specs.declared.status.Status.TheVariants as status
use Rattle.cv_machine.specs.Machine.{When}
use Rattle.cv_world.specs.Actions.{Action, Put, DropMap, Open, Conv, Reset, Close, Bye, Part, Bad, asked}
use Rattle.cv_world.specs.Answers.{most_room}
use Rattle.cv_world.specs.Private.Replying.{IsOther, IsSmall}
use Rattle.cv_world.specs.Turn.{Does, Puts, Holds, Drops, Binds, Opens, Resets, Closes, Parts, Acts}
use Rattle.cv_world.specs.declared.answer.Answer.{Answer}
use Rattle.cv_world.specs.declared.op.Op.{Op}
use Rattle.cv_world.specs.declared.op.Op.TheVariants as op

-- ---- frames

byte : (s : Status) → status_number s < 256
byte status.Ok = omega arith
byte status.TooBig = omega arith
byte status.Ill = omega arith
byte status.Incomplete = omega arith
byte status.BadDescriptor = omega arith
byte status.TooManyDescriptors = omega arith
byte status.NoMemory = omega arith
byte status.Unsupported = omega arith
byte status.BadRequest = omega arith
byte status.BadMap = omega arith
byte status.Exists = omega arith
byte status.NoName = omega arith
byte status.Busy = omega arith
byte status.Quota = omega arith
byte status.Room = omega arith
byte status.Lacking = omega arith

-- a reply whose body is short enough fits a frame
pub fits_frame : (caller tag : ℕ) (s : Status) (body : List ℕ) → caller < 2 ^ 32 → tag < 2 ^ 32 → length body ≤ 1048567
    → FitsFrame (record { caller = caller; tag = tag; code = status_number s; body = body })
fits_frame caller tag s body c t few = record { caller = c; tag = t; code = byte s; body = few }

-- ---- the answers to an action that is not a conversion

does : (next : Table) (answer : Answer) → IsSmall answer → (t : Table) (a : Answer) → Does t a next answer → IsSmall a
does next answer small t a d = subst IsSmall (sym d.1) small

-- what both outcomes of a test imply
pub by_test : (b : Bool) (A B C : Type 0) → (A → C) → (B → C) → When b A B → C
by_test true A B C f g h = f h
by_test false A B C f g h = g h

holds : (table : Table) (m : Charmap) (place : Option ℕ) (t : Table) (a : Answer) → Holds table m place t a → IsSmall a
holds table m None t a d = does _ _ tt t a d
holds table m (Some place) t a d = elim d [ inl e ↦ does _ _ tt t a e | inr e ↦ does _ _ tt t a e ]

puts : (table : Table) (came : Compiled) (t : Table) (a : Answer) → Puts table came t a → IsSmall a
puts table Lacking t a d = does _ _ tt t a d
puts table (Faulty fault) t a d = does _ _ tt t a d
puts table (Read m) t a d = by_test (is_taken table.charmaps m.name) _ _ _ (does _ _ tt t a) (by_test (is_full
    table.charmaps (length m.pairs)) _ _ _ (does _ _ tt t a) (holds table m (least_place table.charmaps) t a)) d

drops : (table : Table) (place : Option ℕ) (t : Table) (a : Answer) → Drops table place t a → IsSmall a
drops table None t a d = does _ _ tt t a d
drops table (Some place) t a d =
    by_test (list_any (uses place) table.descriptors) _ _ _ (does _ _ tt t a) (does _ _ tt t a) d

binds : (table : Table) (number : ℕ) (policy : Policy) (to from : Option Named) (t : Table) (a : Answer)
    → Binds table number policy to from t a → IsSmall a
binds table number policy (Some to) (Some from) t a d = elim d [ inl e ↦ does _ _ tt t a e | inr e ↦ does _ _ tt t a e ]
binds table number policy (Some to) None t a d = does _ _ tt t a d
binds table number policy None from t a d = does _ _ tt t a d

opens : (table : Table) (number : Option ℕ) (to from : List ℕ) (policy : Policy) (t : Table) (a : Answer)
    → Opens table number to from policy t a → IsSmall a
opens table None to from policy t a d = does _ _ tt t a d
opens table (Some number) to from policy t a d =
    binds table number policy (named_of table.charmaps to) (named_of table.charmaps from) t a d

resets : (table : Table) (number : ℕ) (o : Option Descriptor) (room : ℕ) (t : Table) (a : Answer)
    → Resets table number o room t a → IsSmall a
resets table number None room t a d = does _ _ tt t a d
resets table number (Some o) room t a d = by_test
    (nat_lt most_room room) _ _ _ (does _ _ tt t a) (by_test (room == 0) _ _ _ (does _ _ tt t a) (by_test (nat_lt room
    (length (form_closes (form_in table.charmaps o.to) o.states.writing))) _ _ _ (does _ _ tt t a) (does _ _ tt t a))) d

closes : (table : Table) (number : ℕ) (o : Option Descriptor) (t : Table) (a : Answer) → Closes table number o t a
    → IsSmall a
closes table number None t a d = does _ _ tt t a d
closes table number (Some o) t a d = does _ _ tt t a d

parts : (table : Table) (bytes : List ℕ) (t : Table) (a : Answer) → Parts table bytes t a → IsSmall a
parts table [] t a d = does _ _ tt t a d
parts table (b ∷ bytes) t a d = by_test (nat_lt most_part (length (table.part ++ b ∷ bytes))) _ _ _ (does _ _ tt t a)
    (λ h. elim h [ inl e ↦ does _ _ tt t a e | inr e ↦ does _ _ tt t a e ]) d

-- the answer to another action is small
pub small : (table : Table) (action : Action) (t : Table) (a : Answer) → IsOther action → Acts table action t a
    → IsSmall a
small table (Put came) t a o d = puts table came t a d
small table (DropMap name) t a o d = drops table (place_of table.charmaps name) t a d
small table (Open to from policy) t a o d = opens table (least_free table) to from policy t a d
small table (Conv number room input) t a o d = absurd o
small table (Reset number room) t a o d = resets table number (descriptor_at table number) room t a d
small table (Close number) t a o d = closes table number (descriptor_at table number) t a d
small table Bye t a o d = does _ _ tt t a d
small table (Part bytes) t a o d = parts table bytes t a d
small table Bad t a o d = does _ _ tt t a d

-- an op that is not a conversion asks for an action that is none
pub other_op : (o : Op) → ((number room : ℕ) (input : _) → o ≡ op.Conv number room input → ⊥) → IsOther (asked o)
other_op (op.Conv number room input) h = absurd (h number room input refl)
other_op (op.Put charmap) h = tt
other_op (op.DropMap name) h = tt
other_op (op.Open to from policy) h = tt
other_op (op.Reset number room) h = tt
other_op (op.Close number) h = tt
other_op op.Bye h = tt
other_op (op.Part bytes) h = tt
other_op op.Bad h = tt
