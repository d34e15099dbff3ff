-- The results of reading the parts of a line in the code: contracts of private functions cite them.
use Rattle.std.specs.Prelude.{ℕ, List, Result, Ok, Err}
use Rattle.cv_lex.specs.Declarations.{Declared}
use Rattle.cv_lex.specs.Mappings.{Mapping, ◌>>=◌}
use Rattle.cv_lex.specs.Readings.{Reading, Maps}
use Rattle.cv_lex.specs.Seen.{setting_seen}
use Rattle.cv_lex.specs.declared.cause.Cause.{Cause}
use Rattle.cv_lex.specs.declared.line.Setting.{Setting}
use denote.Ref.{Bor}

-- a declaration or its cause
abbrev pub setting_read : Result Setting Cause → Result Declared Cause
setting_read (Ok s) = Ok (setting_seen s)
setting_read (Err cause) = Err cause

-- a mapping as a reading
abbrev pub mapping_read : Result Mapping Cause → Result Reading Cause
mapping_read said = said >>= λ m. Ok (Maps m)

-- bytes that were borrowed, or a cause
abbrev pub bytes_read : Result (Bor (List ℕ)) Cause → Result (List ℕ) Cause
bytes_read (Ok bytes) = Ok bytes.now
bytes_read (Err cause) = Err cause
