-- The meaning of a charmap as a run over its lines, for proofs: `RunMeaning` shows that both are the same.
use Rattle.std.specs.Prelude.{ℕ, ◌+◌, ◌-◌, min, Bool, ◌==◌, false, true, List, [], ◌∷◌, map, if◌then◌else◌, Option}
use Rattle.std.specs.Prelude.{Some, None, Result, Ok, Err}
use Rattle.std.specs.List.{list_any, range_with_len}
use Rattle.cv_base.specs.Scalars.{question}
use Rattle.cv_lex.specs.Readings.{Reading, Skip, Begin, Finish, Declares, Maps, reading_of}
use Rattle.cv_lex.specs.declared.cause.Cause.{Cause}
use Rattle.cv_lex.specs.declared.cause.Cause.TheVariants.{NoMap, NoEnd, NoName, NoSubstitute}
use Rattle.cv_charmap.specs.Entries.{Pair, entry_at, sized_entries}
use Rattle.cv_charmap.specs.Headers.{Header, undeclared, with_declared, marks_by}
use Rattle.cv_charmap.specs.Lists.{entered, entry_cause}
use Rattle.cv_charmap.specs.Meaning.{Charmap, Step}
use Rattle.cv_charmap.specs.declared.fault.MapFault.{MapFault}
use Rattle.cv_charmap.specs.declared.phase.Phase.{Phase}
use Rattle.cv_charmap.specs.declared.phase.Phase.TheVariants.{Above, Inside, Behind}

-- one step after another, until one is faulty
infixl 10 ◌>>=◌
abbrev pub ◌>>=◌ : {A B : Type 0} → Result A MapFault → (A → Result B MapFault) → Result B MapFault
Ok x >>= f = f x
Err fault >>= f = Err fault

abbrev pub fault : ℕ → Cause → MapFault
fault n why = record { line = n; cause = why }

-- the list after an entry, which a faulty one leaves as it is
abbrev pub with_entry : List Pair → Result Pair Cause → List Pair
with_entry all (Ok pair) = entered all pair
with_entry all (Err cause) = all

abbrev pub unless : Option Cause → ℕ → Result (List Pair) MapFault → Result (List Pair) MapFault
unless (Some cause) n rest = Err (fault n cause)
unless None n rest = rest

-- the list after some entries, or the first fault among them
abbrev pub run_steps : List Pair → List Step → Result (List Pair) MapFault
run_steps all [] = Ok all
run_steps all (step ∷ steps) = unless (entry_cause all step.1) step.0 (run_steps (with_entry all step.1) steps)

-- the same for the entries of one line
unfoldable pub run_entries : List Pair → ℕ → List (Result Pair Cause) → Result (List Pair) MapFault
run_entries all n entries = run_steps all (map (λ entry. (n, entry)) entries)

-- the entries of a range from the `i`th on, of `count`
abbrev pub entries_from : Bool → ℕ → List ℕ → ℕ → ℕ → List (Result Pair Cause)
entries_from hex first bytes i count = map (entry_at hex first bytes) (range_with_len i (count - i))

-- what was read of a charmap
pub record State : Type 0 where
  pub header : Header
  pub all : List Pair
  pub phase : Phase
  pub number : ℕ

abbrev pub state : Header → List Pair → Phase → ℕ → State
state header all phase number = record { header = header; all = all; phase = phase; number = number }

-- a line above `CHARMAP`
abbrev pub above_by : State → ℕ → Result Reading Cause → Result State MapFault
above_by s n (Err cause) = Err (fault n cause)
above_by s n (Ok Begin) = Ok (state s.header s.all Inside n)
above_by s n (Ok (Declares d)) = Ok (state (with_declared s.header d) s.all Above n)
above_by s n (Ok Skip) = Ok (state s.header s.all Above n)
above_by s n (Ok Finish) = Ok (state s.header s.all Above n)
above_by s n (Ok (Maps m)) = Ok (state s.header s.all Above n)

-- a line among the mappings
abbrev pub inside_by : State → ℕ → Result Reading Cause → Result State MapFault
inside_by s n (Err cause) = Err (fault n cause)
inside_by s n (Ok Finish) = Ok (state s.header s.all Behind n)
inside_by s n (Ok (Maps m)) = run_entries s.all n (sized_entries s.header.least s.header.most m) >>= λ all.
    Ok (state s.header all Inside n)
inside_by s n (Ok (Declares d)) = Ok (state s.header s.all Inside n)
inside_by s n (Ok Skip) = Ok (state s.header s.all Inside n)
inside_by s n (Ok Begin) = Ok (state s.header s.all Inside n)

abbrev pub next_number : ℕ → ℕ
next_number n = min (n + 1) 4294967295

abbrev pub line_by : Phase → State → List ℕ → Result State MapFault
line_by Above s line = above_by s (next_number s.number) (reading_of (marks_by s.header false) line)
line_by Inside s line = inside_by s (next_number s.number) (reading_of (marks_by s.header true) line)
line_by Behind s line = Ok (state s.header s.all Behind (next_number s.number))

-- one more line
unfoldable pub line_run : State → List ℕ → Result State MapFault
line_run s line = line_by s.phase s line

abbrev pub lines_run : State → List (List ℕ) → Result State MapFault
lines_run s [] = Ok s
lines_run s (line ∷ lines) = line_run s line >>= λ t. lines_run t lines

-- the name and the pairs, if there is a name and `?` is among them
abbrev pub whole_by : Option (List ℕ) → List Pair → Result Charmap MapFault
whole_by None all = Err (fault 0 NoName)
whole_by (Some name) all =
    if list_any (λ p. p.1 == question) all then Ok (record { name = name; pairs = all }) else Err (fault 0 NoSubstitute)

-- what the lines mean after the last
abbrev pub finish_by : Phase → State → Result Charmap MapFault
finish_by Above s = Err (fault 0 NoMap)
finish_by Inside s = Err (fault 0 NoEnd)
finish_by Behind s = whole_by s.header.name s.all

abbrev pub finish_run : State → Result Charmap MapFault
finish_run s = finish_by s.phase s

abbrev pub start : State
start = state undeclared [] Above 0

abbrev pub run_of : List (List ℕ) → Result Charmap MapFault
run_of lines = lines_run start lines >>= finish_run
