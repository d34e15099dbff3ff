-- Names without escape characters, and names that are too long to mean anything.
use Rattle.std.proofs.Common.{◌≡◌, ℕ, ◌<◌, Bool, true, false, List, [], ◌∷◌, length, Option, Some, None, refl, ◌∙◌, ap}
use Rattle.std.proofs.Common.{arith}
use Rattle.std.specs.Prelude.{◌==◌, ◌&&◌, nat_le, bytes_eq, Err, ok_or}
use Rattle.std.specs.Map.{lookup}
use Rattle.std.specs.List.{list_any, list_all}
use Rattle.std.proofs.lemmas.Bool.{or_parts, and_parts, and_left, and_right, lt-leb, leb-true}
use Rattle.cv_lex.specs.Mappings.{plain}
use Rattle.cv_lex.specs.Words.{are_digits}
use Rattle.cv_lex.specs.Names.{digits_of, symbol_of, character_of, range_of, range_by, base_of, meaning_by}
use Rattle.cv_lex.specs.declared.cause.Cause.TheVariants.{UnknownName, Range}
use Rattle.cv_lex.specs.Symbols.{symbols}

-- removing escape characters from a name that has none changes nothing
pub no_escape : (escape : ℕ) (name : List ℕ) → list_any (λ b. b == escape) name ≡ false → plain escape name ≡ name
no_escape escape [] none = refl
no_escape escape (b ∷ name) none =
    let parts = or_parts (b == escape) (list_any (λ b. b == escape) name) none in
    rw parts.0 (ap (λ x. b ∷ x) (no_escape escape name parts.1))

no_digits : (name : List ℕ) → 64 < length name → digits_of name ≡ None
unfolding digits_of
no_digits [] long = absurd (omega arith)
no_digits (b ∷ digits) long =
    let off : nat_le (length digits) 8 ≡ false = lt-leb _ _ (omega arith) in
    let no : (((b == 85 && nat_le 4 (length digits)) && nat_le (length digits) 8) && are_digits 16 digits) ≡ false =
    and_left _ _ (and_right _ _ off) in
    rw no refl

-- a name that is longer than all of a table is not in it
absent : (name : List ℕ) (n : ℕ) → n < length name → (table : List (List ℕ × ℕ))
    → list_all (λ e. nat_le (length e.0) n) table ≡ true → lookup (bytes_eq name) table ≡ None
absent name n long [] short = refl
absent name n long (e ∷ table) short =
    let parts = and_parts (nat_le (length e.0) n) (list_all (λ e. nat_le (length e.0) n) table) short in
    let other : bytes_eq name e.0 ≡ false = lengths_differ name e.0 (let low = leb-true _ _ parts.0 in omega arith) in
    rw other (absent name n long table parts.1)
  where
    lengths_differ : (a b : List ℕ) → length b < length a → bytes_eq a b ≡ false
    lengths_differ [] b h = absurd (omega arith)
    lengths_differ (x ∷ a) [] h = refl
    lengths_differ (x ∷ a) (y ∷ b) h = and_right _ _ (lengths_differ a b (omega arith))

no_symbol : (name : List ℕ) → 64 < length name → symbol_of name ≡ None
unfolding symbol_of
no_symbol [] long = absurd (omega arith)
no_symbol (b ∷ []) long = absurd (omega arith)
no_symbol (b ∷ c ∷ name) long = absent (b ∷ c ∷ name) 64 long symbols refl

-- a name of more than 64 bytes is unknown
pub long_name : (name : List ℕ) → 64 < length name → character_of name ≡ Err UnknownName
unfolding character_of
long_name name long = ap (λ d. meaning_by d (symbol_of name)) (no_digits name long)
    ∙ ap (λ s. ok_or s UnknownName) (no_symbol name long)

-- no range begins with such a name
pub long_first : (hex : Bool) (first last : List ℕ) → 64 < length first → range_of hex first last ≡ Err Range
unfolding range_of
long_first hex first last long = ap (λ d. range_by (base_of hex) d (digits_of last)) (no_digits first long)

-- no range ends with such a name
pub long_last : (hex : Bool) (first last : List ℕ) → 64 < length last → range_of hex first last ≡ Err Range
unfolding range_of
long_last hex first last long = ap (range_by (base_of hex) (digits_of first)) (no_digits last long)
    ∙ either (digits_of first)
  where
    either : (o : Option (List ℕ)) → range_by (base_of hex) o None ≡ Err Range
    either None = refl
    either (Some d) = refl
