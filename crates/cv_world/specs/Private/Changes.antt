-- How one caller's keyed table changes, and what is answered.
use Rattle.std.specs.Prelude.{◌≡◌, ◌≢◌, ◌<◌, ℕ, Bool, false, List, [], length, slice_index_or, Option, None, IsSome}
use Rattle.std.specs.Prelude.{Result, Ok, Err}
use Rattle.std.specs.Ordering.{nat_cmp}
use Rattle.std.specs.BTreeMap.{BTreeMap, get}
use Rattle.cv_caller.specs.Keyed.{Keyed, keyed_with_part}
use Rattle.cv_caller.specs.Results.{IsAdded}
use Rattle.cv_caller.specs.declared.place.Place.{Place}
use Rattle.cv_caller.specs.declared.faults.AddFault.{AddFault}
use Rattle.cv_caller.specs.declared.faults.AddFault.TheVariants as add
use Rattle.cv_caller.specs.declared.faults.DropFault.{DropFault}
use Rattle.cv_caller.specs.declared.faults.DropFault.TheVariants as drop
use Rattle.cv_caller.specs.declared.faults.PartFault.{PartFault}
use Rattle.cv_caller.specs.declared.faults.PartFault.TheVariants as part
use Rattle.cv_charmap.specs.Meaning.{Charmap}
use Rattle.cv_frame.specs.declared.status.Status.TheVariants as status
use Rattle.cv_world.specs.declared.answer.Answer.{Answer}
use Rattle.cv_world.specs.declared.answer.Answer.TheVariants as answers

-- The caller has a table.
abbrev pub HasTable : BTreeMap ℕ Keyed → ℕ → Type 0
HasTable callers caller = IsSome (get nat_cmp callers caller)

-- The caller has no table.
abbrev pub IsAbsent : BTreeMap ℕ Keyed → ℕ → Type 0
IsAbsent callers caller = get nat_cmp callers caller ≡ None

-- A number for which the list has false is not bound.
abbrev pub ClosedWhereNot : (ℕ → Option Place) → List Bool → Type 0
ClosedWhereNot places bound = (number : ℕ) → number < length bound → slice_index_or bound number false ≡ false
    → places number ≡ None

-- One caller's table becomes this one, and all others stay the same.
pub record SetsKeyed (old new : ℕ → Keyed) (caller : ℕ) (keyed : Keyed) : Type 0 where
  pub own : new caller ≡ keyed
  pub others : (other : ℕ) → other ≢ caller → new other ≡ old other

-- The result of a PUT of a charmap: if the charmap is held, the part of the upload is dropped.
abbrev pub IsPut : Keyed → Charmap → Result ℕ AddFault → Keyed → Type 0
IsPut old charmap (Ok bytes) new = (held : Keyed) × IsAdded old charmap (Ok bytes) held
    × (new ≡ keyed_with_part held [])
IsPut old charmap (Err fault) new = IsAdded old charmap (Err fault) new

-- the answer to a PUT of a charmap with `count` mappings
abbrev pub add_answer : ℕ → Result ℕ AddFault → Answer
add_answer count (Ok bytes) = answers.Count count
add_answer count (Err add.Exists) = answers.Refused status.Exists
add_answer count (Err add.Quota) = answers.Refused status.Quota
add_answer count (Err add.Full) = answers.Refused status.NoMemory
add_answer count (Err add.Memory) = answers.Refused status.NoMemory

-- the answer to dropping a charmap
abbrev pub drop_answer : Result ℕ DropFault → Answer
drop_answer (Ok bytes) = answers.Empty
drop_answer (Err drop.NoName) = answers.Refused status.NoName
drop_answer (Err drop.Busy) = answers.Refused status.Busy

-- the answer to a part that was sent
abbrev pub part_answer : Result ℕ PartFault → Answer
part_answer (Ok count) = answers.Count count
part_answer (Err part.Quota) = answers.Refused status.Quota
part_answer (Err part.Full) = answers.Refused status.NoMemory
part_answer (Err part.Memory) = answers.Refused status.NoMemory
