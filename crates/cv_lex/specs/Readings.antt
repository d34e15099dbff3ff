-- What a line of a charmap says (XBD 6.4). That lines with `%` above `CHARMAP` are comments is the project's own.
use Rattle.std.specs.Prelude.{ℕ, Bool, false, ◌&&◌, ◌||◌, not, List, [], ◌∷◌, drop, codes, nat_lt, ◌==◌, if◌then◌else◌}
use Rattle.std.specs.Prelude.{Result, Ok}
use Rattle.std.specs.List.{prefix_len, list_all}
use Rattle.cv_lex.specs.Words.{is_blank, begins, after_blanks}
use Rattle.cv_lex.specs.Declarations.{Declared, declaration_of}
use Rattle.cv_lex.specs.Mappings.{Mapping, mapping_of, ◌>>=◌}
use Rattle.cv_lex.specs.declared.cause.Cause.{Cause}
use Rattle.cv_lex.specs.declared.line.Marks.{Marks}

-- what a line says: nothing, that the mappings begin or end, a declaration, or a mapping
pub data Reading : Type 0 where
  Skip : Reading
  Begin : Reading
  Finish : Reading
  Declares : Declared → Reading
  Maps : Mapping → Reading

-- whether a line is a comment: it begins with the comment character, or above `CHARMAP` with `%`; but never with `<`
abbrev pub is_comment : Marks → List ℕ → Bool
is_comment marks [] = false
is_comment marks (b ∷ line) = not (b == 60) && (b == marks.comment || (not marks.inside && b == 37))

-- whether a line is skipped: it is a comment, or has only blanks
abbrev pub is_skipped : Marks → List ℕ → Bool
is_skipped marks line = list_all is_blank line || is_comment marks line

-- whether a line begins the mappings: `CHARMAP`, and only blanks after it
abbrev pub is_begin : List ℕ → Bool
is_begin line = begins line (codes "CHARMAP") && list_all is_blank (drop 7 line)

-- whether a line ends the mappings: `END`, blanks, `CHARMAP`, and only blanks after it
abbrev pub is_finish : List ℕ → Bool
is_finish line = begins line (codes "END") && nat_lt 0 (prefix_len is_blank (drop 3 line))
    && is_begin (after_blanks (drop 3 line))

-- What a line says under the marks that hold for it. Whether it is skipped is tested first.
unfoldable pub reading_of : Marks → List ℕ → Result Reading Cause
reading_of marks line =
    if is_skipped marks line then Ok Skip else
    if marks.inside
    then (if is_finish line then Ok Finish else mapping_of marks.escape line >>= λ m. Ok (Maps m))
    else if is_begin line then Ok Begin else declaration_of line >>= λ d. Ok (Declares d)
