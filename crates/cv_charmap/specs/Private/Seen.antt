-- How the code represents what was read of a charmap. Contracts of private functions cite it.
use Rattle.std.specs.Prelude.{◌≡◌, ℕ, ◌<◌, ◌≤◌, Bool, false, true, List, length, take, Some, None, option_map, Result}
use Rattle.std.specs.Prelude.{Ok, Err}
use Rattle.cv_lex.specs.Readings.{Reading, reading_of}
use Rattle.cv_lex.specs.declared.cause.Cause.{Cause}
use Rattle.cv_charmap.specs.Entries.{Pair, entry_at}
use Rattle.cv_charmap.specs.Headers as spec
use Rattle.cv_charmap.specs.Headers.{marks_by}
use Rattle.cv_charmap.specs.Lists.{entered, pair_cause}
use Rattle.cv_charmap.specs.Meaning.{Charmap}
use Rattle.cv_charmap.specs.Private.Covers.{pair_at, HasEntry, IsFound}
use Rattle.cv_charmap.specs.Private.Runs.{fault, run_entries, entries_from, State, state, above_by, inside_by}
use Rattle.cv_charmap.specs.Private.Runs.{finish_by, line_run, next_number}
use Rattle.cv_charmap.specs.declared.pair_list.EntryFault.{EntryFault}
use Rattle.cv_charmap.specs.declared.pair_list.EntryFault.TheVariants as entry
use Rattle.cv_charmap.specs.declared.fault.CompileFault.{CompileFault}
use Rattle.cv_charmap.specs.declared.fault.CompileFault.TheVariants as compile
use Rattle.cv_charmap.specs.declared.fault.MapFault.{MapFault}
use Rattle.cv_charmap.specs.declared.header.Header.{Header}
use Rattle.cv_charmap.specs.declared.phase.Phase.{Phase}
use Rattle.cv_charmap.specs.declared.phase.Phase.TheVariants.{Above, Inside}
use Rattle.cv_charmap.specs.declared.phase.ReaderState.{ReaderState}
use Rattle.cv_charmap.specs.declared.covered.LookedUp.{LookedUp}

-- the values of a header
abbrev pub header_seen : Header → spec.Header
header_seen h = record {
  name = option_map (λ n. n.now) h.name;
  most = h.most;
  least = h.least;
  escape = h.escape;
  comment = h.comment;
}

-- an entry without the bytes that pad it
abbrev pub padded_entry : ℕ → Result Pair Cause → Result Pair Cause
padded_entry size (Ok p) = Ok (take size p.0, p.1)
padded_entry size (Err cause) = Err cause

-- A pair was entered into a list, and is at an index, or was refused. Nothing is claimed if an allocation failed.
abbrev pub Enters : List Pair → Pair → Result ℕ EntryFault → List Pair → Type 0
Enters all p (Ok index) after = (pair_cause all p ≡ None) × (after ≡ entered all p) × (index < length after)
    × (pair_at after index ≡ p)
Enters all p (Err (entry.Faulty cause)) after = pair_cause all p ≡ Some cause
Enters all p (Err entry.Memory) after = Unit {0}

-- An entry of a range was entered, and is at an index. The entries from it up to another are in the list. Nothing is
-- claimed if an allocation failed.
abbrev pub Passes : List Pair → Bool → ℕ → List ℕ → ℕ → ℕ → Result (ℕ × ℕ) EntryFault → List Pair → Type 0
Passes all hex first bytes i count (Ok passed) after = (i < passed.1) × (take (length all) after ≡ all)
    × ((n : ℕ) → run_entries all n (entries_from hex first bytes i count) ≡ run_entries after n (entries_from hex first
    bytes passed.1 count)) × (passed.0 < length after) × (entry_at hex first bytes i ≡ Ok (pair_at after passed.0))
    × ((k : ℕ) → i ≤ k → k < passed.1 → HasEntry after hex first bytes k)
Passes all hex first bytes i count (Err (entry.Faulty cause)) after =
    (n : ℕ) → run_entries all n (entries_from hex first bytes i count) ≡ Err (fault n cause)
Passes all hex first bytes i count (Err entry.Memory) after = Unit {0}

-- Entries of a range from one on were entered. Those up to another are in the list, and the pairs of the first of them
-- are one after another. Nothing is claimed if an allocation failed.
abbrev pub PassesOn : List Pair → Bool → ℕ → List ℕ → ℕ → ℕ → Result (LookedUp × ℕ) EntryFault → List Pair → Type 0
PassesOn all hex first bytes i count (Ok passed) after = (i < passed.1) × (take (length all) after ≡ all)
    × ((n : ℕ) → run_entries all n (entries_from hex first bytes i count) ≡ run_entries after n
    (entries_from hex first bytes passed.1 count)) × IsFound after hex first bytes passed.1 passed.0
    × ((k : ℕ) → i ≤ k → k < passed.1 → HasEntry after hex first bytes k)
PassesOn all hex first bytes i count (Err (entry.Faulty cause)) after =
    (n : ℕ) → run_entries all n (entries_from hex first bytes i count) ≡ Err (fault n cause)
PassesOn all hex first bytes i count (Err entry.Memory) after = Unit {0}

-- Entries were entered, or one is at fault, as a run over them says. Nothing is claimed if an allocation failed.
abbrev pub RunsTo : Result (List Pair) MapFault → ℕ → Result (Unit {0}) EntryFault → List Pair → Type 0
RunsTo run n (Ok done) after = run ≡ Ok after
RunsTo run n (Err (entry.Faulty cause)) after = run ≡ Err (record { line = n; cause = cause })
RunsTo run n (Err entry.Memory) after = Unit {0}

-- what was read of a charmap so far
abbrev pub state_seen : Header → List Pair → Phase → ℕ → State
state_seen h all phase number = state (header_seen h) all phase number

-- A line above `CHARMAP` was read.
abbrev pub AboveTo : spec.Header → List ℕ → ℕ → Result (Header × Phase) MapFault → Type 0
AboveTo h line n (Ok after) = (all : List Pair) (k : ℕ) → above_by (state h all Above k) n
    (reading_of (marks_by h false) line) ≡ Ok (state (header_seen after.0) all after.1 n)
AboveTo h line n (Err fault) = (all : List Pair) (k : ℕ)
    → above_by (state h all Above k) n (reading_of (marks_by h false) line) ≡ Err fault

-- A line among the mappings was read. Nothing is claimed if an allocation failed.
abbrev pub InsideTo : spec.Header → List Pair → List ℕ → ℕ → Result Phase CompileFault → List Pair → Type 0
InsideTo h all line n (Ok phase) after = (k : ℕ)
    → inside_by (state h all Inside k) n (reading_of (marks_by h true) line) ≡ Ok (state h after phase n)
InsideTo h all line n (Err (compile.Map fault)) after = (k : ℕ)
    → inside_by (state h all Inside k) n (reading_of (marks_by h true) line) ≡ Err fault
InsideTo h all line n (Err compile.Memory) after = Unit {0}

-- what follows from entering a mapping
abbrev pub after_entries : Result (Unit {0}) EntryFault → ℕ → Result Phase CompileFault
after_entries (Ok done) n = Ok Inside
after_entries (Err (entry.Faulty cause)) n = Err (compile.Map (record { line = n; cause = cause }))
after_entries (Err entry.Memory) n = Err compile.Memory

-- what the charmap means if it ends here
abbrev pub finished : Phase → spec.Header → List Pair → Result Charmap MapFault
finished phase h all = finish_by phase (state h all phase 0)

-- What a line among the mappings says was done. Nothing is claimed if an allocation failed.
abbrev pub TakesInside : spec.Header → List Pair → Reading → ℕ → Result Phase CompileFault → List Pair → Type 0
TakesInside h all said n (Ok phase) after = (k : ℕ)
    → inside_by (state h all Inside k) n (Ok said) ≡ Ok (state h after phase n)
TakesInside h all said n (Err (compile.Map fault)) after = (k : ℕ)
    → inside_by (state h all Inside k) n (Ok said) ≡ Err fault
TakesInside h all said n (Err compile.Memory) after = Unit {0}

-- what the next line depends on, if the line was read
abbrev pub taken : ReaderState → Result (Unit {0}) CompileFault → Result ReaderState CompileFault
taken reader (Ok done) = Ok reader
taken reader (Err why) = Err why

-- A line was read. Nothing is claimed if an allocation failed.
abbrev pub NextTo : State → List ℕ → Result ReaderState CompileFault → List Pair → Type 0
NextTo s line (Ok reader) after =
    line_run s line ≡ Ok (state (header_seen reader.header) after reader.phase (next_number s.number))
NextTo s line (Err (compile.Map fault)) after = line_run s line ≡ Err fault
NextTo s line (Err compile.Memory) after = Unit {0}
