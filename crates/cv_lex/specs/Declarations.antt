-- The declarations of a header line (XBD 6.4). The values that are allowed are the project's own.
use Rattle.std.specs.Prelude.{ℕ, ◌-◌, Bool, ◌&&◌, not, List, [], ◌∷◌, length, take, drop, codes, slice_index, nat_le}
use Rattle.std.specs.Prelude.{◌==◌, if◌then◌else◌, bytes_eq, Option, Some, None, Result, Ok, Err}
use Rattle.std.specs.Char.{is_ascii_graphic, is_ascii_punctuation}
use Rattle.std.specs.List.{before_first, after_first, list_any, list_all}
use Rattle.cv_lex.specs.Words.{value_behind}
use Rattle.cv_lex.specs.declared.cause.Cause.{Cause}
use Rattle.cv_lex.specs.declared.cause.Cause.TheVariants.{Declaration}

-- What a header line declares: one of the five that are read, or something else, which is ignored.
pub data Declared : Type 0 where
  Name : List ℕ → Declared
  MbMax : ℕ → Declared
  MbMin : ℕ → Declared
  Escape : ℕ → Declared
  Comment : ℕ → Declared
  Other : Declared

-- a value without the one pair of quotation marks around it
abbrev pub unquoted : List ℕ → List ℕ
unquoted value =
    let size : ℕ = length value in
    if nat_le 2 size && slice_index value 0 == 34 && slice_index value (size - 1) == 34
    then take (size - 2) (drop 1 value)
    else value

-- the name of a code set: 1 to 64 graphic bytes
abbrev pub name_by : List ℕ → Result Declared Cause
name_by name =
    if nat_le 1 (length name) && nat_le (length name) 64 && list_all is_ascii_graphic name
    then Ok (Name name)
    else Err Declaration

-- the byte of a value that is one byte, if it passes a test
abbrev pub sole : (ℕ → Bool) → List ℕ → Option ℕ
sole test [] = None
sole test (b ∷ []) = if test b then Some b else None
sole test (b ∷ c ∷ value) = None

-- what a value of one byte declares
abbrev pub byte_by : (ℕ → Declared) → Option ℕ → Result Declared Cause
byte_by declares None = Err Declaration
byte_by declares (Some b) = Ok (declares b)

-- a digit from 1 to 8
abbrev pub is_size : ℕ → Bool
is_size b = nat_le 49 b && nat_le b 56

-- an ASCII punctuation byte other than `<` and `>`
abbrev pub is_mark : ℕ → Bool
is_mark b = is_ascii_punctuation b && not (b == 60) && not (b == 62)

-- what a name and its value declare
unfoldable pub declared_by : List ℕ → List ℕ → Result Declared Cause
declared_by key value =
    if bytes_eq key (codes "code_set_name") then name_by (unquoted value) else
    if bytes_eq key (codes "mb_cur_max") then byte_by (λ b. MbMax (b - 48)) (sole is_size value) else
    if bytes_eq key (codes "mb_cur_min") then byte_by (λ b. MbMin (b - 48)) (sole is_size value) else
    if bytes_eq key (codes "escape_char") then byte_by Escape (sole is_mark value) else
    if bytes_eq key (codes "comment_char") then byte_by Comment (sole is_mark value) else Ok Other

-- whether a byte closes a name: `>`
abbrev pub is_close : ℕ → Bool
is_close b = b == 62

-- What a header line declares: `<` in the first column, a name up to the first `>`, blanks and a value.
unfoldable pub declaration_of : List ℕ → Result Declared Cause
declaration_of [] = Err Declaration
declaration_of (b ∷ line) =
    if b == 60 && list_any is_close line
    then declared_by (before_first is_close line) (value_behind (after_first is_close line))
    else Err Declaration
