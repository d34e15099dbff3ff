-- How the code represents the readings of lines.
use Rattle.std.specs.Prelude.{◌<◌, length, Result, Ok, Err}
use Rattle.cv_lex.specs.Declarations as says
use Rattle.cv_lex.specs.Declarations.{Declared}
use Rattle.cv_lex.specs.Mappings as maps
use Rattle.cv_lex.specs.Readings.{Reading, Skip, Begin, Finish, Declares, Maps}
use Rattle.cv_lex.specs.declared.cause.Cause.{Cause}
use Rattle.cv_lex.specs.declared.line.Line.{Line}
use Rattle.cv_lex.specs.declared.line.Line.TheVariants as line
use Rattle.cv_lex.specs.declared.line.Setting.{Setting}
use Rattle.cv_lex.specs.declared.line.Setting.TheVariants as setting

-- a setting as a declaration
abbrev pub setting_seen : Setting → Declared
setting_seen (setting.Name name) = says.Name name.now
setting_seen (setting.MbMax n) = says.MbMax n
setting_seen (setting.MbMin n) = says.MbMin n
setting_seen (setting.Escape b) = says.Escape b
setting_seen (setting.Comment b) = says.Comment b
setting_seen setting.Other = says.Other

-- a line as what it says
abbrev pub line_seen : Line → Reading
line_seen line.Skip = Skip
line_seen line.Begin = Begin
line_seen line.Finish = Finish
line_seen (line.Setting s) = Declares (setting_seen s)
line_seen (line.One c bytes) = Maps (maps.One c bytes)
line_seen (line.Range first last hex bytes) = Maps (maps.Range first last hex bytes)

-- a line that was read, or the cause why it is faulty
abbrev pub line_read : Result Line Cause → Result Reading Cause
line_read (Ok l) = Ok (line_seen l)
line_read (Err cause) = Err cause

-- A mapping has bytes.
abbrev pub HasBytes : Line → Type 0
HasBytes (line.One c bytes) = 0 < length bytes
HasBytes (line.Range first last hex bytes) = 0 < length bytes
HasBytes line.Skip = Unit {0}
HasBytes line.Begin = Unit {0}
HasBytes line.Finish = Unit {0}
HasBytes (line.Setting s) = Unit {0}
