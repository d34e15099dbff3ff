-- What is wrong with a pair, by the entries that its bytes meet.
use Rattle.std.proofs.Common.{◌≡◌, ◌≢◌, ℕ, ◌<◌, Bool, true, false, cond, leb, List, [], ◌∷◌, ◌++◌, length, refl, sym}
use Rattle.std.proofs.Common.{◌∙◌, ap, arith, inl, inr, Some, None, eq-eqb}
use Rattle.std.specs.Prelude.{◌||◌, ◌&&◌, not, bytes_eq, nat_eq}
use Rattle.std.specs.List.{list_any}
use Rattle.std.proofs.lemmas.Bool.{cases_Bool, cases_eq, and_parts, false≢true, ne_eqb}
use Rattle.std.proofs.lemmas.List.Folds.{list_any_at, list_any_none}
use Rattle.std.proofs.lemmas.List.Elements.{All-from_get_or}
use Rattle.std.proofs.lemmas.Slice.Eq.{bytes_eq-Decides}
use Rattle.cv_base.specs.Items.{Begins}
use Rattle.cv_base.proofs.Front.{Begins-refl}
use Rattle.cv_lex.specs.Words.{begins}
use Rattle.cv_lex.specs.declared.cause.Cause.TheVariants.{Clash, Prefix, TooMany}
use Rattle.cv_byte_trie.specs.Entries.{bytes_at, character_at, AreApart}
use Rattle.cv_byte_trie.specs.Results.{MeetsNone}
use Rattle.cv_charmap.specs.Entries.{Pair}
use Rattle.cv_charmap.specs.Lists.{most_pairs, repeats, clashes, overlaps, entered, pair_cause}
use Rattle.cv_charmap.specs.Private.Covers.{pair_at}

-- ---- byte strings

-- a text that begins with bytes passes the test
pub begins_true : (b t : List ℕ) → Begins b t → begins t b ≡ true
begins_true [] t h = refl
begins_true (x ∷ b) [] h = absurd h
begins_true (x ∷ b) (y ∷ t) h = rw (eq-eqb x y h.0) (begins_true b t h.1)

-- a text that passes the test begins with the bytes
pub begins_from : (b t : List ℕ) → begins t b ≡ true → Begins b t
begins_from [] t e = tt
begins_from (x ∷ b) [] e = absurd (cc)
begins_from (x ∷ b) (y ∷ t) e = let parts = and_parts (nat_eq x y) (begins t b) e in
    (same x y parts.0, begins_from b t parts.1)
  where
    same : (x y : ℕ) → nat_eq x y ≡ true → x ≡ y
    same x y h = elim (cases_eq x y) [ inl s ↦ s | inr s ↦ absurd (false≢true (sym (ne_eqb x y s) ∙ h)) ]

-- byte strings that pass the test are equal
pub same_bytes : (a b : List ℕ) → bytes_eq a b ≡ true → a ≡ b
same_bytes a b e = (bytes_eq-Decides a b).0 e

-- byte strings that are equal pass the test
pub eq_bytes : (a b : List ℕ) → a ≡ b → bytes_eq a b ≡ true
eq_bytes a b e = (bytes_eq-Decides a b).1 e

ne_bytes : (a b : List ℕ) → a ≢ b → bytes_eq a b ≡ false
ne_bytes a b h = elim (cases_Bool (bytes_eq a b)) [ inl e ↦ absurd (h (same_bytes a b e)) | inr e ↦ e ]

-- ---- tests of all pairs

none_of : (all : List Pair) (f : Pair → Bool) → ((k : ℕ) → k < length all → f (pair_at all k) ≡ false)
    → list_any f all ≡ false
none_of all f h = list_any_none f all (All-from_get_or (λ x. f x ≡ false) all ([], 0) h)

-- the causes of a pair, by the three tests
cause_by : (all : List Pair) (p : Pair) (c o r : Bool) → list_any (clashes p) all ≡ c → list_any (overlaps p) all ≡ o
    → list_any (repeats p) all ≡ r → pair_cause all p
    ≡ cond c (Some Clash) (cond o (Some Prefix) (cond (not r && leb most_pairs (length all)) (Some TooMany) None))
unfolding pair_cause
cause_by all p c o r e f g = rw (e, f, g) refl

module _ (all : List Pair) (p : Pair) where
  clash_free : ((k : ℕ) → k < length all → bytes_at all k ≡ p.0 → character_at all k ≡ p.1)
      → list_any (clashes p) all ≡ false
  clash_free h = none_of all (clashes p) (λ k low. elim (cases_Bool (bytes_eq (bytes_at all k) p.0)) [
    | inl e ↦ rw (e, eq-eqb (character_at all k) p.1 (h k low (same_bytes (bytes_at all k) p.0 e))) refl
    | inr e ↦ rw e refl
  ])

  overlap_free : ((k : ℕ) → k < length all → bytes_at all k ≢ p.0
      → (Begins p.0 (bytes_at all k) → ⊥) × (Begins (bytes_at all k) p.0 → ⊥)) → list_any (overlaps p) all ≡ false
  overlap_free h = none_of all (overlaps p) (λ k low. elim (cases_Bool (bytes_eq (bytes_at all k) p.0)) [
    | inl e ↦ rw e refl
    | inr e ↦ (
        let other : bytes_at all k ≢ p.0 = λ s. false≢true (sym e ∙ eq_bytes (bytes_at all k) p.0 s) in
        let both = h k low other in
        let f : begins (bytes_at all k) p.0 ≡ false = not_begins p.0 (bytes_at all k) both.0 in
        let g : begins p.0 (bytes_at all k) ≡ false = not_begins (bytes_at all k) p.0 both.1 in
        rw (e, f, g) refl)
  ])
    where
      not_begins : (b t : List ℕ) → (Begins b t → ⊥) → begins t b ≡ false
      not_begins b t h = elim (cases_Bool (begins t b)) [ inl e ↦ absurd (h (begins_from b t e)) | inr e ↦ e ]

  repeat_free : ((k : ℕ) → k < length all → bytes_at all k ≢ p.0) → list_any (repeats p) all ≡ false
  repeat_free h = none_of all (repeats p) (λ k low. rw (ne_bytes (bytes_at all k) p.0 (h k low)) refl)

  overlapped : (k : ℕ) → k < length all → bytes_at all k ≢ p.0 → begins (bytes_at all k) p.0 ≡ true
      → list_any (overlaps p) all ≡ true
  overlapped k low other e =
      list_any_at (overlaps p) all k ([], 0) low (rw (ne_bytes (bytes_at all k) p.0 other, e) refl)

  overlapped' : (k : ℕ) → k < length all → bytes_at all k ≢ p.0 → begins p.0 (bytes_at all k) ≡ true
      → list_any (overlaps p) all ≡ true
  overlapped' k low other e = list_any_at (overlaps p) all k ([], 0) low
      (rw (ne_bytes (bytes_at all k) p.0 other) (either (begins (bytes_at all k) p.0) (begins p.0 (bytes_at all k)) e))
    where
      either : (a b : Bool) → b ≡ true → (a || b) ≡ true
      either true b e = refl
      either false b e = e

  -- a pair that meets none is new
  pub fresh : MeetsNone all p.0
      → (list_any (repeats p) all ≡ false) × (pair_cause all p ≡ cond (leb most_pairs (length all)) (Some TooMany) None)
  fresh meets =
      let other : (k : ℕ) → k < length all
      → bytes_at all k ≢ p.0 = λ k low e. (meets k low).0 (rw e (Begins-refl p.0)) in
      let r = repeat_free other in (
        r,
        cause_by all p false false false (clash_free (λ k low e. absurd (other k low e)))
            (overlap_free (λ k low _. ((meets k low).1, (meets k low).0))) r,
      )

  -- a pair that meets none is added at the end
  pub fresh_entered : MeetsNone all p.0 → entered all p ≡ all ++ p ∷ []
  fresh_entered meets = rw (fresh meets).0 refl

  module _ (apart : AreApart all) (k : ℕ) (low : k < length all) where
    -- no other entry overlaps one that is in the list
    held_overlaps : bytes_at all k ≡ p.0 → list_any (overlaps p) all ≡ false
    held_overlaps e = overlap_free (λ j lj other. (
      λ f. other (ap (bytes_at all) (sym (apart k j low lj (rw e f))) ∙ e),
      λ f. other (ap (bytes_at all) (apart j k lj low (rw e f)) ∙ e),
    ))

    -- a pair that is in the list has no cause, and is not entered again
    pub held_again : bytes_at all k ≡ p.0 → character_at all k ≡ p.1 → (pair_cause all p ≡ None) × (entered all p ≡ all)
    held_again e c =
        let r : list_any (repeats p) all ≡ true = list_any_at (repeats p) all k ([], 0) low
        (rw (eq_bytes (bytes_at all k) p.0 e, eq-eqb (character_at all k) p.1 c) refl) in
        let clash = clash_free (λ j lj f. ap (character_at all) (apart j k lj low (rw (f, e) (Begins-refl p.0))) ∙ c) in
        (cause_by all p false false true clash (held_overlaps e) r, rw r refl)

    -- bytes that are in the list with another character
    pub held_otherwise : bytes_at all k ≡ p.0 → character_at all k ≢ p.1 → pair_cause all p ≡ Some Clash
    held_otherwise e c =
        cause_by all p true (list_any (overlaps p) all) (list_any (repeats p) all) (list_any_at (clashes p) all k
        ([], 0) low (rw (eq_bytes (bytes_at all k) p.0 e, ne_eqb (character_at all k) p.1 c) refl)) refl refl

    -- bytes that begin with an entry's and are longer
    pub continues : Begins (bytes_at all k) p.0 → length (bytes_at all k) < length p.0 → pair_cause all p ≡ Some Prefix
    continues f longer =
        let other : bytes_at all k ≢ p.0 = λ e. (let same = ap length e in omega arith) in
        let clash = clash_free
        (λ j lj e. absurd (let same : k ≡ j = apart k j low lj (rw e f) in other (ap (bytes_at all) same ∙ e))) in
        cause_by all p false true (list_any (repeats p) all) clash
        (overlapped' k low other (begins_true (bytes_at all k) p.0 f)) refl

    -- bytes that are a proper prefix of an entry's
    pub goes_before : Begins p.0 (bytes_at all k) → length p.0 < length (bytes_at all k)
        → pair_cause all p ≡ Some Prefix
    goes_before f longer =
        let other : bytes_at all k ≢ p.0 = λ e. (let same = ap length e in omega arith) in
        let clash = clash_free
        (λ j lj e. absurd (let same : j ≡ k = apart j k lj low (rw e f) in other (ap (bytes_at all) (sym same) ∙ e))) in
        cause_by all p false true (list_any (repeats p) all) clash
        (overlapped k low other (begins_true p.0 (bytes_at all k) f)) refl
