-- What a charmap text means: a name and a list of pairs, or its first fault (XBD 6.4).
use Rattle.std.specs.Prelude.{ℕ, ◌+◌, min, true, false, not, ◌==◌, List, [], ◌∷◌, ◌++◌, length, map, take, drop}
use Rattle.std.specs.Prelude.{filter_map, slice_get, is_none, if◌then◌else◌, Option, Some, None, option_map, Result}
use Rattle.std.specs.Prelude.{Ok, Err}
use Rattle.std.specs.List.{before_first, after_first, list_any, range_with_len}
use Rattle.cv_base.specs.Scalars.{question}
use Rattle.cv_lex.specs.Lines.{lines_of}
use Rattle.cv_lex.specs.Declarations.{declaration_of}
use Rattle.cv_lex.specs.Readings.{Reading, Skip, Begin, Finish, Declares, Maps, is_begin, is_finish, reading_of}
use Rattle.cv_lex.specs.declared.cause.Cause.{Cause}
use Rattle.cv_lex.specs.declared.cause.Cause.TheVariants.{NoMap, NoEnd, NoName, NoSubstitute}
use Rattle.cv_charmap.specs.Entries.{Pair, sized_entries}
use Rattle.cv_charmap.specs.Headers.{Header, undeclared, with_said, header_of, marks_by}
use Rattle.cv_charmap.specs.Lists.{distinct, entry_cause}
use Rattle.cv_charmap.specs.declared.fault.MapFault.{MapFault}

-- a name, and pairs of bytes and characters
pub record Charmap : Type 0 where
  pub name : List ℕ
  pub pairs : List Pair

-- the header: the lines above the first line `CHARMAP`, or all
abbrev pub header_lines : List (List ℕ) → List (List ℕ)
header_lines lines = before_first is_begin lines

-- the mappings: the lines after that line, up to the next line `END CHARMAP` or to the end; what follows `END CHARMAP`
-- means nothing
abbrev pub mapping_lines : List (List ℕ) → List (List ℕ)
mapping_lines lines = before_first is_finish (after_first is_begin lines)

-- the entries of a line: those of a mapping; for a faulty line its cause in place of an entry; none for any other line
abbrev pub entries_by : Header → Result Reading Cause → List (Result Pair Cause)
entries_by h (Err cause) = Err cause ∷ []
entries_by h (Ok (Maps mapping)) = sized_entries h.least h.most mapping
entries_by h (Ok (Declares declared)) = []
entries_by h (Ok Skip) = []
entries_by h (Ok Begin) = []
entries_by h (Ok Finish) = []

-- the entries of each header line, under the values that the lines above it declare
abbrev pub header_entries : Header → List (List ℕ) → List (List (Result Pair Cause))
header_entries h [] = []
header_entries h (line ∷ lines) =
    entries_by h (reading_of (marks_by h false) line) ∷ header_entries (with_said h (declaration_of line)) lines

-- the entries of each mapping line, under the values that the header declares
abbrev pub mapping_entries : Header → List (List ℕ) → List (List (Result Pair Cause))
mapping_entries h lines = map (λ line. entries_by h (reading_of (marks_by h true) line)) lines

-- the number of a line, and an entry of it
abbrev pub Step : Type 0
Step = ℕ × Result Pair Cause

-- The entries of lines one after another, with the numbers of their lines, from `n` on. A number that does not fit 32
-- bits is given as the greatest that does.
abbrev pub numbered : ℕ → List (List (Result Pair Cause)) → List Step
numbered n [] = []
numbered n (entries ∷ lines) = map (λ entry. (min n 4294967295, entry)) entries ++ numbered (n + 1) lines

-- all entries of a text; the line `CHARMAP` has none
abbrev pub steps_of : List (List ℕ) → List Step
steps_of lines =
    let header : List (List ℕ) = header_lines lines in
    numbered 1 (header_entries undeclared header ++ [] ∷ mapping_entries (header_of header) (mapping_lines lines))

-- the pair of an entry that is no cause
abbrev pub pair_of : Step → Option Pair
pair_of (n, Ok pair) = Some pair
pair_of (n, Err cause) = None

-- the pairs of entries, without repeats
abbrev pub pairs_of : List Step → List Pair
pairs_of steps = distinct (filter_map pair_of steps)

-- the fault of the first of some entries, by the list of the pairs above it
abbrev pub fault_by : List Pair → List Step → Option MapFault
fault_by all [] = None
fault_by all (step ∷ steps) = option_map (λ cause. record { line = step.0; cause = cause }) (entry_cause all step.1)

-- the faults of all entries, each by the pairs above it
abbrev pub faults_of : List Step → List MapFault
faults_of steps = filter_map (λ k. fault_by (pairs_of (take k steps)) (drop k steps)) (range_with_len 0 (length steps))

-- what the whole text lacks, if anything
abbrev pub lacks : List (List ℕ) → Option (List ℕ) → List Pair → Option Cause
lacks lines name pairs =
    if not (list_any is_begin lines) then Some NoMap else
    if not (list_any is_finish (after_first is_begin lines)) then Some NoEnd else
    if is_none name then Some NoName else
    if not (list_any (λ p. p.1 == question) pairs) then Some NoSubstitute else None

-- the outcome: the first fault; or else what is lacking, with line 0; or else the name and the pairs
abbrev pub decided : Option MapFault → Option Cause → Option (List ℕ) → List Pair → Result Charmap MapFault
decided (Some fault) lack name pairs = Err fault
decided None (Some cause) name pairs = Err (record { line = 0; cause = cause })
decided None None None pairs = Err (record { line = 0; cause = NoName })
decided None None (Some name) pairs = Ok (record { name = name; pairs = pairs })

-- What the lines of a charmap mean: by the first fault, by what the whole file lacks, the last name and all pairs.
unfoldable pub meaning_of_lines : List (List ℕ) → Result Charmap MapFault
meaning_of_lines lines =
    let name : Option (List ℕ) = (header_of (header_lines lines)).name in
    let steps : List Step = steps_of lines in
    decided (slice_get (faults_of steps) 0) (lacks lines name (pairs_of steps)) name (pairs_of steps)

-- what a charmap text means
abbrev pub meaning : List ℕ → Result Charmap MapFault
meaning text = meaning_of_lines (lines_of text)
