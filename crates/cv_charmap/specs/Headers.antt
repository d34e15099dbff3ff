-- What the header of a charmap declares (XBD 6.4). That the least size is 1 unless declared is the project's own.
use Rattle.std.specs.Prelude.{ℕ, Bool, List, fold, Option, Some, None, Result, Ok, Err}
use Rattle.cv_lex.specs.Declarations as says
use Rattle.cv_lex.specs.Declarations.{Declared, declaration_of}
use Rattle.cv_lex.specs.declared.cause.Cause.{Cause}
use Rattle.cv_lex.specs.declared.line.Marks.{Marks}

-- the values that hold after some header lines
pub record Header : Type 0 where
  pub name : Option (List ℕ)
  pub most : ℕ
  pub least : ℕ
  pub escape : ℕ
  pub comment : ℕ

-- no name, one byte for each character, backslash and `#`
abbrev pub undeclared : Header
undeclared = record { name = None; most = 1; least = 1; escape = 92; comment = 35 }

-- the values after a declaration, which replaces an earlier one of the same name
abbrev pub with_declared : Header → Declared → Header
with_declared h (says.Name name) = record h { name = Some name }
with_declared h (says.MbMax n) = record h { most = n }
with_declared h (says.MbMin n) = record h { least = n }
with_declared h (says.Escape b) = record h { escape = b }
with_declared h (says.Comment b) = record h { comment = b }
with_declared h says.Other = h

-- the values after a line: one that declares nothing changes nothing
abbrev pub with_said : Header → Result Declared Cause → Header
with_said h (Ok declared) = with_declared h declared
with_said h (Err cause) = h

-- the values after all of these lines: those of the last declarations
abbrev pub header_of : List (List ℕ) → Header
header_of lines = fold (λ h line. with_said h (declaration_of line)) undeclared lines

-- the marks by which a line is read
abbrev pub marks_by : Header → Bool → Marks
marks_by h inside = record { escape = h.escape; comment = h.comment; inside = inside }
