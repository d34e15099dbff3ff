-- What every turn of the machine keeps, and which outcomes each request always has.
use Rattle.std.specs.Prelude.{◌≡◌, ◌≢◌, ◌==◌, ◌||◌, ◌&&◌, ◌↔◌, ℕ, Bool, true, List, [], ◌++◌, length, nat_lt, Some}
use Rattle.std.specs.Prelude.{IfSome, is_some}
use Rattle.cv_caller.specs.Tables.{Charmaps, Table, Named, BuiltIn, Held, Descriptor, IsTable, charmap_at}
use Rattle.cv_caller.specs.Tables.{descriptor_at, empty_table, with_part}
use Rattle.cv_machine.specs.Machine.{Outcome, Event, IsRun, after_all, no_memory}
use Rattle.cv_frame.specs.Status.{status_number}
use Rattle.cv_frame.specs.Ops.{op_open, op_conv, op_put, op_bye, op_part}
use Rattle.cv_frame.specs.declared.status.Status.TheVariants as status
use Rattle.cv_frame.specs.Bodies.{name_body, drop_of}
use Rattle.cv_world.specs.Requests.{turn}
use Rattle.cv_world.specs.Worlds.{no_tables}

-- An encoding of a descriptor is built in, or a charmap that is held.
abbrev pub IsThere : Charmaps → Named → Type 0
IsThere charmaps (BuiltIn builtin) = Unit {0}
IsThere charmaps (Held place) = is_some (charmap_at charmaps place) ≡ true

-- Both encodings of a descriptor are built in, or charmaps that are held.
abbrev pub AreThere : Charmaps → Descriptor → Type 0
AreThere charmaps descriptor = IsThere charmaps descriptor.to × IsThere charmaps descriptor.from

-- A table that a caller may have: it is within the limits, and no descriptor reads or writes a charmap that isn't held.
pub record IsSound (table : Table) : Type 0 where
  pub is_table : IsTable table
  pub there : (number : ℕ) → IfSome (descriptor_at table number) (AreThere table.charmaps)

-- The empty table is sound, and a turn leaves a sound table sound.
pub record KeepsTables : Type 0 where
  pub begins : IsSound empty_table
  pub keeps : (table : Table) (code : ℕ) (body : List ℕ) (outcome : Outcome Table) → IsSound table
      → turn table code body outcome → IsSound outcome.next

-- After each run from empty tables every caller's table is sound.
abbrev pub RunsKeepTables : Type 0
RunsKeepTables = (events : List (Event Table)) → IsRun turn no_tables events → (caller : ℕ)
    → IsSound (after_all no_tables events caller)

-- At a sound table, an allocation failure is never the only outcome that a request may have.
abbrev pub NeverLacksAlone : Type 0
NeverLacksAlone = (table : Table) (code : ℕ) (body : List ℕ) → IsSound table
    → ((outcome : Outcome Table) → turn table code body outcome → outcome.code ≡ no_memory) → ⊥

-- whether a request takes memory: a PUT, an OPEN, a CONV, and a PART that isn't empty
abbrev pub takes_memory : ℕ → List ℕ → Bool
takes_memory code body =
    code == op_put || (code == op_open || (code == op_conv || (code == op_part && nat_lt 0 (length body))))

-- No other request has an allocation failure as an outcome.
abbrev pub LacksWhereTaken : Type 0
LacksWhereTaken = (table : Table) (code : ℕ) (body : List ℕ) (outcome : Outcome Table) → turn table code body outcome
    → outcome.code ≡ no_memory → takes_memory code body ≡ true

-- Two PARTs, one after the other and both OK, do what one PART of both bodies does. A charmap whose text is sent in
-- parts is held as one whose text is sent whole. The answer and the table after it are the same.
pub record JoinsParts : Type 0 where
  pub parts : (table : Table) (first second : List ℕ) (between after : Outcome Table) → first ≢ [] → second ≢ []
      → between.code ≡ status_number status.Ok → after.code ≡ status_number status.Ok → turn table op_part first between
      → turn between.next op_part second after → turn table op_part (first ++ second) after
  pub put : (table : Table) (part body : List ℕ) (outcome : Outcome Table) → outcome.code ≡ status_number status.Ok
      → turn (with_part table part) op_put body outcome ↔ turn (with_part table []) op_put (part ++ body) outcome

-- After a BYE its caller has the table of one that never asked.
abbrev pub ByeStartsAgain : Type 0
ByeStartsAgain = (table : Table) (outcome : Outcome Table) → turn table op_bye [] outcome → outcome.next ≡ empty_table

-- The body of a DROP is a name, encoded as those of an OPEN are, and no other body is read as one.
pub record NamesReadBack : Type 0 where
  pub drops : (name : List ℕ) → drop_of (name_body name) ≡ Some name
  pub drops_only : (body name : List ℕ) → drop_of body ≡ Some name → body ≡ name_body name
