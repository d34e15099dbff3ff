-- The line that `checkmap` prints for a charmap file. Its form is this project's own.
use Rattle.std.specs.Prelude.{ℕ, List, [], ◌∷◌, ◌++◌, length, codes, Result, Ok, Err}
use Rattle.std.specs.Fmt.{decimal}
use Rattle.cv_charmap.specs.Meaning.{Charmap}
use Rattle.cv_charmap.specs.declared.fault.MapFault.{MapFault}
use Rattle.cv_lex.specs.Causes.{cause_name}

-- The line of a charmap: its name, a space (32), the number of its pairs in decimal, and a line feed (10).
abbrev pub charmap_line : Charmap → List ℕ
charmap_line charmap = charmap.name ++ 32 ∷ (decimal (length charmap.pairs) ++ 10 ∷ [])

-- The line of a text that is no charmap: the number of the line with the first fault, and the name of the cause.
abbrev pub fault_line : MapFault → List ℕ
fault_line fault = codes "line " ++ (decimal fault.line ++ (codes ": " ++ (cause_name fault.cause ++ 10 ∷ [])))

-- the line for what a text means
abbrev pub checked_line : Result Charmap MapFault → List ℕ
checked_line (Ok charmap) = charmap_line charmap
checked_line (Err fault) = fault_line fault
