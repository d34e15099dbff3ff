-- The entries of a text have 1 to 8 bytes, and scalar values.
use Rattle.std.proofs.Common.{◌≡◌, ℕ, zero, suc, ◌+◌, ◌-◌, ◌<◌, ◌≤◌, Bool, true, false, cond, ltb, List, [], ◌∷◌, ◌++◌}
use Rattle.std.proofs.Common.{length, map, min, refl, ◌∙◌, ap, arith}
use Rattle.std.specs.Prelude.{◌||◌, Result, Ok, Err}
use Rattle.std.specs.List.{range_with_len}
use Rattle.cv_lex.specs.Names.{is_scalar}
use Rattle.cv_lex.specs.Declarations.{Declared, declaration_of}
use Rattle.cv_lex.specs.Mappings as maps
use Rattle.cv_lex.specs.Mappings.{Mapping, One, Range, mapping_of}
use Rattle.cv_lex.specs.Readings.{Reading, Skip, Begin, Finish, Declares, Maps, is_skipped, is_begin, is_finish}
use Rattle.cv_lex.specs.Readings.{reading_of}
use Rattle.cv_lex.specs.declared.cause.Cause.{Cause}
use Rattle.cv_lex.specs.declared.cause.Cause.TheVariants.{Length}
use Rattle.cv_lex.specs.declared.line.Marks.{Marks}
use Rattle.cv_lex.proofs.MappingLaws.{IsFit, mapping_fit}
use Rattle.cv_charmap.specs.Entries.{Pair, entry_at, entries_of, sized_entries, number_of, bytes_of_mapping}
use Rattle.cv_charmap.specs.Headers.{Header, undeclared, with_said, header_of, marks_by}
use Rattle.cv_charmap.specs.Meaning.{Step, header_lines, mapping_lines, entries_by, header_entries, mapping_entries}
use Rattle.cv_charmap.specs.Meaning.{numbered, steps_of}
use Rattle.cv_charmap.proofs.Counting.{is_entry, size_in}

-- An entry has 1 to 8 bytes and a scalar value, or is a cause.
abbrev pub IsFitEntry : Result Pair Cause → Type 0
IsFitEntry (Ok p) = (0 < length p.0) × (length p.0 ≤ 8) × (is_scalar p.1 ≡ true)
IsFitEntry (Err cause) = Unit {0}

-- All entries are fit.
abbrev pub AreFit : List (Result Pair Cause) → Type 0
AreFit [] = Unit {0}
AreFit (entry ∷ entries) = IsFitEntry entry × AreFit entries

abbrev AreFitLines : List (List (Result Pair Cause)) → Type 0
AreFitLines [] = Unit {0}
AreFitLines (entries ∷ lines) = AreFit entries × AreFitLines lines

-- All entries are fit, whatever the numbers of their lines.
abbrev pub AreFitSteps : List Step → Type 0
AreFitSteps [] = Unit {0}
AreFitSteps (step ∷ steps) = IsFitEntry step.1 × AreFitSteps steps

-- ---- the entries of a mapping

entry_fit : (hex : Bool) (first : ℕ) (bytes : List ℕ) → 0 < length bytes → length bytes ≤ 8 → (i : ℕ)
    → (r : Result Pair Cause) → entry_at hex first bytes i ≡ r → IsFitEntry r
entry_fit hex first bytes some few i (Ok q) e =
    let p = is_entry hex first bytes i q e in
    let size : length q.0 ≡ length bytes = ap length p.bytes_are ∙ size_in (length bytes) (number_of bytes + i) in
    (omega arith, omega arith, ap is_scalar p.character ∙ p.scalar)
entry_fit hex first bytes some few i (Err cause) e = tt

range_fit : (hex : Bool) (first : ℕ) (bytes : List ℕ) → 0 < length bytes → length bytes ≤ 8 → (n i : ℕ)
    → AreFit (map (entry_at hex first bytes) (range_with_len i n))
range_fit hex first bytes some few zero i = tt
range_fit hex first bytes some few (suc n) i = (
  entry_fit hex first bytes some few i (entry_at hex first bytes i) refl,
  range_fit hex first bytes some few n (i + 1),
)

entries_fit : (m : Mapping) → IsFit m → AreFit (entries_of m)
entries_fit (One c bytes) f = ((f.1, f.2, f.0), tt)
entries_fit (Range first last hex bytes) f = range_fit hex first bytes f.0 f.1 (last + 1 - first) 0

sized_fit : (least most : ℕ) (m : Mapping) → IsFit m → AreFit (sized_entries least most m)
sized_fit least most m f = either (ltb (length (bytes_of_mapping m)) least || ltb most (length (bytes_of_mapping m)))
  where
    either : (b : Bool) → AreFit (cond b (Err Length ∷ []) (entries_of m))
    either true = (tt, tt)
    either false = entries_fit m f

-- ---- the entries of a line

mapped_fit : (o : Result Mapping Cause) (m : Mapping) → maps.◌>>=◌ o (λ x. Ok (Maps x)) ≡ Ok (Maps m) → o ≡ Ok m
mapped_fit (Ok x) m e = (let same : x ≡ m = cc in ap (λ (y : Mapping). Ok y) same)
mapped_fit (Err cause) m e = absurd (cc)

not_declared : (o : Result Declared Cause) (m : Mapping) → maps.◌>>=◌ o (λ x. Ok (Declares x)) ≡ Ok (Maps m) → ⊥
not_declared (Ok x) m e = cc
not_declared (Err cause) m e = cc

reading_fit : (marks : Marks) (line : List ℕ) (m : Mapping) → reading_of marks line ≡ Ok (Maps m) → IsFit m
unfolding reading_of
reading_fit marks line m e = by (is_skipped marks line) marks.inside (is_finish line) (is_begin line) e
  where
    by : (s i f b : Bool)
        → cond s (Ok Skip) (cond i (cond f (Ok Finish) (maps.◌>>=◌ (mapping_of marks.escape line) (λ x. Ok (Maps x))))
        (cond b (Ok Begin) (maps.◌>>=◌ (declaration_of line) (λ x. Ok (Declares x))))) ≡ Ok (Maps m) → IsFit m
    by true i f b h = absurd (cc)
    by false true true b h = absurd (cc)
    by false true false b h = mapping_fit marks.escape line m (mapped_fit (mapping_of marks.escape line) m h)
    by false false f true h = absurd (cc)
    by false false f false h = absurd (not_declared (declaration_of line) m h)

line_fit : (h : Header) (marks : Marks) (line : List ℕ) (r : Result Reading Cause) → reading_of marks line ≡ r
    → AreFit (entries_by h r)
line_fit h marks line (Err cause) e = (tt, tt)
line_fit h marks line (Ok (Maps m)) e = sized_fit h.least h.most m (reading_fit marks line m e)
line_fit h marks line (Ok (Declares d)) e = tt
line_fit h marks line (Ok Skip) e = tt
line_fit h marks line (Ok Begin) e = tt
line_fit h marks line (Ok Finish) e = tt

-- ---- the entries of a text

header_fit : (h : Header) (lines : List (List ℕ)) (rest : List (List (Result Pair Cause))) → AreFitLines rest
    → AreFitLines (header_entries h lines ++ rest)
header_fit h [] rest f = f
header_fit h (line ∷ lines) rest f = (
  line_fit h (marks_by h false) line (reading_of (marks_by h false) line) refl,
  header_fit (with_said h (declaration_of line)) lines rest f,
)

mappings_fit : (h : Header) (lines : List (List ℕ)) → AreFitLines (mapping_entries h lines)
mappings_fit h [] = tt
mappings_fit h (line ∷ lines) =
    (line_fit h (marks_by h true) line (reading_of (marks_by h true) line) refl, mappings_fit h lines)

steps_append : (n : ℕ) (entries : List (Result Pair Cause)) (rest : List Step) → AreFit entries → AreFitSteps rest
    → AreFitSteps (map (λ entry. (n, entry)) entries ++ rest)
steps_append n [] rest f g = g
steps_append n (entry ∷ entries) rest f g = (f.0, steps_append n entries rest f.1 g)

numbered_fit : (n : ℕ) (lines : List (List (Result Pair Cause))) → AreFitLines lines → AreFitSteps (numbered n lines)
numbered_fit n [] f = tt
numbered_fit n (entries ∷ lines) f =
    steps_append (min n 4294967295) entries (numbered (n + 1) lines) f.0 (numbered_fit (n + 1) lines f.1)

-- all entries of a text are fit
pub steps_fit : (lines : List (List ℕ)) → AreFitSteps (steps_of lines)
steps_fit lines =
    let header : List (List ℕ) = header_lines lines in
    let mappings : List (List (Result Pair Cause)) = mapping_entries (header_of header) (mapping_lines lines) in
    numbered_fit 1 (header_entries undeclared header ++ [] ∷ mappings)
    (header_fit undeclared header ([] ∷ mappings) (tt, mappings_fit (header_of header) (mapping_lines lines)))
