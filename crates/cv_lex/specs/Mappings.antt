-- What a mapping line says: a name or a range of names, and an encoding (XBD 6.4). The order of the causes is the
-- project's own.
use Rattle.std.specs.Prelude.{ℕ, Bool, true, false, List, [], ◌∷◌, length, drop, codes, nat_lt, ◌==◌, if◌then◌else◌}
use Rattle.std.specs.Prelude.{Option, Some, None, option_map, ok_or, Result, Ok, Err}
use Rattle.cv_lex.specs.Words.{begins, after_blanks, value_behind}
use Rattle.cv_lex.specs.Names.{character_of, range_of}
use Rattle.cv_lex.specs.Constants.{bytes_of}
use Rattle.cv_lex.specs.declared.cause.Cause.{Cause}
use Rattle.cv_lex.specs.declared.cause.Cause.TheVariants.{Syntax}

-- the same with one more byte before the name
abbrev pub with_byte : ℕ → Option (List ℕ × List ℕ) → Option (List ℕ × List ℕ)
with_byte b found = option_map (λ p. (b ∷ p.0, p.1)) found

-- A name up to the first `>` that no escape character precedes, and what follows it. The flag says whether an escape
-- character precedes the text.
abbrev pub name_from : ℕ → Bool → List ℕ → Option (List ℕ × List ℕ)
name_from escape escaped [] = None
name_from escape true (b ∷ text) = with_byte b (name_from escape false text)
name_from escape false (b ∷ text) =
    if b == escape then with_byte b (name_from escape true text) else
    if b == 62 then Some ([], text) else with_byte b (name_from escape false text)

-- the name at the start in angle brackets, and what follows it
abbrev pub bracketed_name : ℕ → List ℕ → Option (List ℕ × List ℕ)
bracketed_name escape [] = None
bracketed_name escape (b ∷ text) = if b == 60 then name_from escape false text else None

-- A name without its escape characters: the byte after each is literal. The flag is that of `name_from`.
abbrev pub without_escapes : ℕ → Bool → List ℕ → List ℕ
without_escapes escape escaped [] = []
without_escapes escape true (b ∷ name) = b ∷ without_escapes escape false name
without_escapes escape false (b ∷ name) =
    if b == escape then without_escapes escape true name else b ∷ without_escapes escape false name

-- a name with its escape characters removed
abbrev pub plain : ℕ → List ℕ → List ℕ
plain escape name = without_escapes escape false name

-- the encoding after blanks, if there is one; what follows it is ignored
abbrev pub encoding_at : List ℕ → Option (List ℕ)
encoding_at text = if nat_lt 0 (length (value_behind text)) then Some (value_behind text) else None

-- One character and its bytes; or the first and the last number of a range, whether they count in hexadecimal, and the
-- first bytes.
pub data Mapping : Type 0 where
  One : ℕ → List ℕ → Mapping
  Range : ℕ → ℕ → Bool → List ℕ → Mapping

-- one step after another, until one is faulty
infixl 10 ◌>>=◌
abbrev pub ◌>>=◌ : {A B : Type 0} → Result A Cause → (A → Result B Cause) → Result B Cause
Ok x >>= f = f x
Err cause >>= f = Err cause

-- what a mapping says after a single name
unfoldable pub single_by : ℕ → List ℕ → List ℕ → Result Mapping Cause
single_by escape name rest = do
  encoding ← ok_or (encoding_at rest) Syntax
  character ← character_of (plain escape name)
  bytes ← bytes_of escape encoding
  Ok (One character bytes)

-- what a mapping says after the first name of a range
unfoldable pub ranged_by : ℕ → Bool → List ℕ → List ℕ → Result Mapping Cause
ranged_by escape hex first rest = do
  last ← ok_or (bracketed_name escape rest) Syntax
  encoding ← ok_or (encoding_at last.1) Syntax
  ends ← range_of hex (plain escape first) (plain escape last.0)
  bytes ← bytes_of escape encoding
  Ok (Range ends.0 ends.1 hex bytes)

-- What a mapping line says: a name, which `...` or `..` after it makes a range, and an encoding. Blanks before it are
-- ignored.
unfoldable pub mapping_of : ℕ → List ℕ → Result Mapping Cause
mapping_of escape line = do
  first ← ok_or (bracketed_name escape (after_blanks line)) Syntax
  if begins first.1 (codes "...") then ranged_by escape false first.0 (drop 3 first.1) else
      if begins first.1 (codes "..") then ranged_by escape true first.0 (drop 2 first.1) else
      single_by escape first.0 first.1
