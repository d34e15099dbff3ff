-- A mapping line that is not faulty says a scalar value or a range, and 1 to 8 bytes.
use Rattle.std.proofs.Common.{◌≡◌, ◌≢◌, ℕ, ◌<◌, ◌≤◌, Bool, true, false, cond, ltb, List, [], ◌∷◌, length, drop, Option}
use Rattle.std.proofs.Common.{Some, None, refl, subst, ◌∙◌, ap, arith}
use Rattle.std.specs.Prelude.{◌==◌, codes, bytes_eq, option_map, option_and_then, ok_or, Result, Ok, Err}
use Rattle.std.specs.Char.{is_ascii_alphabetic}
use Rattle.std.specs.List.{list_all}
use Rattle.std.specs.Map.{lookup}
use Rattle.std.proofs.lemmas.Bool.{and_parts, ltb-false, ne_eqb}
use Rattle.std.proofs.lemmas.Bool.Decides.{nat_tests}
use Rattle.cv_lex.specs.Words.{begins, after_blanks, numeral}
use Rattle.cv_lex.specs.Names.{is_scalar, digits_of, symbol_of, meaning_by, character_of, range_of}
use Rattle.cv_lex.specs.Constants.{kind_of, constant_at, numbers_within, bytes_by, bytes_of}
use Rattle.cv_lex.specs.Mappings.{Mapping, One, Range, ◌>>=◌, bracketed_name, encoding_at, plain, single_by, ranged_by}
use Rattle.cv_lex.specs.Mappings.{mapping_of}
use Rattle.cv_lex.specs.declared.cause.Cause.{Cause}
use Rattle.cv_lex.specs.declared.cause.Cause.TheVariants.{Length, Syntax, NotScalar}
use Rattle.cv_lex.specs.declared.encoding.Kind.{Kind}
use Rattle.cv_lex.specs.Symbols.{symbols}

-- ---- bytes

bytes_by_ok : (o : Option (List ℕ)) (bytes : List ℕ) → bytes_by o ≡ Ok bytes → (o ≡ Some bytes) × (length bytes ≤ 8)
bytes_by_ok None bytes e = absurd (cc)
bytes_by_ok (Some ns) bytes e = chosen (ltb 8 (length ns)) refl e
  where
    chosen : (b : Bool) → ltb 8 (length ns) ≡ b → cond b (Err Length) (Ok ns) ≡ Ok bytes
        → (Some ns ≡ Some bytes) × (length bytes ≤ 8)
    chosen true is h = absurd (cc)
    chosen false is h = let same : ns ≡ bytes = cc in
        (ap Some same, subst (λ (x : List ℕ). length x ≤ 8) same (ltb-false 8 (length ns) is))

some_number : (f : List ℕ → Option (List ℕ)) (o : Option (ℕ × List ℕ)) (bytes : List ℕ)
    → option_and_then (λ c. option_map (λ numbers. c.0 ∷ numbers) (f c.1)) o ≡ Some bytes → 0 < length bytes
some_number f None bytes e = absurd (cc)
some_number f (Some c) bytes e = more (f c.1) e
  where
    more : (o : Option (List ℕ)) → option_map (λ numbers. c.0 ∷ numbers) o ≡ Some bytes → 0 < length bytes
    more None h = absurd (cc)
    more (Some ns) h = let same : c.0 ∷ ns ≡ bytes = cc in subst (λ (x : List ℕ). 0 < length x) same (omega arith)

some_numbers : (escape : ℕ) (kind : Kind) (text bytes : List ℕ) → 0 < length text
    → numbers_within (length text) escape kind text ≡ Some bytes → 0 < length bytes
some_numbers escape kind [] bytes some e = absurd (omega arith)
some_numbers escape kind (b ∷ text) bytes some e =
    some_number (numbers_within (length text) escape kind) (constant_at escape kind (b ∷ text)) bytes e

-- an encoding has 1 to 8 bytes
pub bytes_some : (escape : ℕ) (text bytes : List ℕ) → bytes_of escape text ≡ Ok bytes
    → (0 < length bytes) × (length bytes ≤ 8)
unfolding bytes_of
bytes_some escape [] bytes e = absurd (cc)
bytes_some escape (b ∷ text) bytes e =
    let some : (length (b ∷ text) == 0) ≡ false =
    ne_eqb (length (b ∷ text)) 0 (let h : length (b ∷ text) ≢ 0 = omega arith in h) in
    let by = bytes_by_ok (numbers_within (length (b ∷ text)) escape (kind_of text) (b ∷ text)) bytes (rw some at e) in
    (some_numbers escape (kind_of text) (b ∷ text) bytes (omega arith) by.0, by.1)

-- ---- characters

letter_scalar : (b : ℕ) → is_ascii_alphabetic b ≡ true → is_scalar b ≡ true
letter_scalar b e = grind (arith, nat_tests)

listed_scalar : (test : List ℕ → Bool) (table : List (List ℕ × ℕ)) (c : ℕ) → list_all (λ e. is_scalar e.1) table ≡ true
    → lookup test table ≡ Some c → is_scalar c ≡ true
listed_scalar test [] c all e = absurd (cc)
listed_scalar test (x ∷ table) c all e =
    let parts = and_parts (is_scalar x.1) (list_all (λ e. is_scalar e.1) table) all in
    here (test x.0) parts.0 (listed_scalar test table c parts.1) e
  where
    here : (b : Bool) → is_scalar x.1 ≡ true → (lookup test table ≡ Some c → is_scalar c ≡ true)
        → cond b (Some x.1) (lookup test table) ≡ Some c → is_scalar c ≡ true
    here true p rest h = let same : x.1 ≡ c = cc in subst (λ (n : ℕ). is_scalar n ≡ true) same p
    here false p rest h = rest h

symbol_scalar : (name : List ℕ) (c : ℕ) → symbol_of name ≡ Some c → is_scalar c ≡ true
unfolding symbol_of
symbol_scalar [] c e = absurd (cc)
symbol_scalar (b ∷ []) c e = letter (is_ascii_alphabetic b) refl e
  where
    letter : (t : Bool) → is_ascii_alphabetic b ≡ t → cond t (Some b) None ≡ Some c → is_scalar c ≡ true
    letter true is h = let same : b ≡ c = cc in subst (λ (n : ℕ). is_scalar n ≡ true) same (letter_scalar b is)
    letter false is h = absurd (cc)
symbol_scalar (b ∷ d ∷ name) c e = listed_scalar (bytes_eq (b ∷ d ∷ name)) symbols c refl e

-- a name means a scalar value
pub character_scalar : (name : List ℕ) (c : ℕ) → character_of name ≡ Ok c → is_scalar c ≡ true
unfolding character_of
character_scalar name c e = by (digits_of name) (symbol_of name) refl e
  where
    by : (o : Option (List ℕ)) (s : Option ℕ) → symbol_of name ≡ s → meaning_by o s ≡ Ok c → is_scalar c ≡ true
    by (Some digits) s is h = number (is_scalar (numeral 16 digits)) refl h
      where
        number : (t : Bool) → is_scalar (numeral 16 digits) ≡ t → cond t (Ok (numeral 16 digits)) (Err NotScalar) ≡ Ok c
            → is_scalar c ≡ true
        number true is h = let same : numeral 16 digits ≡ c = cc in subst (λ (n : ℕ). is_scalar n ≡ true) same is
        number false is h = absurd (cc)
    by None (Some s) is h = let same : s ≡ c = cc in symbol_scalar name c (is ∙ ap Some same)
    by None None is h = absurd (cc)

-- ---- mappings

-- if a step is not faulty, neither is the one before it
bind_ok : {A B : Type 0} (r : Result A Cause) (f : A → Result B Cause) (y : B) → r >>= f ≡ Ok y
    → (x : A) × (r ≡ Ok x) × (f x ≡ Ok y)
bind_ok (Ok x) f y e = (x, refl, e)
bind_ok (Err cause) f y e = absurd (cc)

-- A mapping has 1 to 8 bytes, and a single character is a scalar value.
abbrev pub IsFit : Mapping → Type 0
IsFit (One c bytes) = (is_scalar c ≡ true) × (0 < length bytes) × (length bytes ≤ 8)
IsFit (Range first last hex bytes) = (0 < length bytes) × (length bytes ≤ 8)

single_fit : (escape : ℕ) (name rest : List ℕ) (m : Mapping) → single_by escape name rest ≡ Ok m → IsFit m
unfolding single_by
single_fit escape name rest m e =
    let a = bind_ok (ok_or (encoding_at rest) Syntax) _ m e in
    let b = bind_ok (character_of (plain escape name)) _ m a.2 in
    let c = bind_ok (bytes_of escape a.0) _ m b.2 in
    let s = bytes_some escape a.0 c.0 c.1 in
    let same : One b.0 c.0 ≡ m = (let h = c.2 in cc) in
    subst IsFit same (character_scalar (plain escape name) b.0 b.1, s.0, s.1)

ranged_fit : (escape : ℕ) (hex : Bool) (name rest : List ℕ) (m : Mapping) → ranged_by escape hex name rest ≡ Ok m
    → IsFit m
unfolding ranged_by
ranged_fit escape hex name rest m e =
    let a = bind_ok (ok_or (bracketed_name escape rest) Syntax) _ m e in
    let b = bind_ok (ok_or (encoding_at a.0.1) Syntax) _ m a.2 in
    let c = bind_ok (range_of hex (plain escape name) (plain escape a.0.0)) _ m b.2 in
    let d = bind_ok (bytes_of escape b.0) _ m c.2 in
    let s = bytes_some escape b.0 d.0 d.1 in
    let same : Range c.0.0 c.0.1 hex d.0 ≡ m = (let h = d.2 in cc) in
    subst IsFit same (s.0, s.1)

-- what a mapping line says
pub mapping_fit : (escape : ℕ) (line : List ℕ) (m : Mapping) → mapping_of escape line ≡ Ok m → IsFit m
unfolding mapping_of
mapping_fit escape line m e = (let a = bind_ok (ok_or (bracketed_name escape (after_blanks line)) Syntax) _ m e in
    by a.0 (begins a.0.1 (codes "...")) (begins a.0.1 (codes "..")) a.2)
  where
    by : (first : List ℕ × List ℕ) (three two : Bool) → cond three (ranged_by escape false first.0 (drop 3 first.1))
        (cond two (ranged_by escape true first.0 (drop 2 first.1)) (single_by escape first.0 first.1)) ≡ Ok m → IsFit m
    by first true two h = ranged_fit escape false first.0 (drop 3 first.1) m h
    by first false true h = ranged_fit escape true first.0 (drop 2 first.1) m h
    by first false false h = single_fit escape first.0 first.1 m h
