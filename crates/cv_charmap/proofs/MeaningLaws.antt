-- If a text means a name and pairs, these are a charmap's.
use Rattle.std.proofs.Common.{◌≡◌, ℕ, ◌<◌, ◌≤◌, Bool, true, false, cond, leb, ltb, not, List, [], ◌∷◌, ◌++◌, length}
use Rattle.std.proofs.Common.{refl, sym, subst, ◌∙◌, ap, arith, inl, inr, Option, Some, None, length-append}
use Rattle.std.specs.Prelude.{◌==◌, ◌||◌, ◌&&◌, bytes_eq, slice_get, is_none, Ok, Err}
use Rattle.std.specs.List.{list_any, after_first}
use Rattle.std.proofs.lemmas.Bool.{cases_Bool, false≢true, leb-false, or_parts, ltb-true, leb-true}
use Rattle.std.proofs.lemmas.List.Folds.{list_any_at}
use Rattle.cv_base.specs.Scalars.{IsScalar, question}
use Rattle.cv_lex.specs.Lines.{lines_of}
use Rattle.cv_lex.specs.Names.{is_scalar}
use Rattle.cv_lex.specs.Readings.{is_begin, is_finish}
use Rattle.cv_lex.specs.Words.{begins}
use Rattle.cv_lex.specs.declared.cause.Cause.{Cause}
use Rattle.cv_lex.specs.declared.cause.Cause.TheVariants.{Clash, Prefix, TooMany, NoMap, NoEnd, NoName, NoSubstitute}
use Rattle.cv_byte_trie.specs.Entries.{AreEntries}
use Rattle.cv_byte_trie.specs.Results.{MeetsNone}
use Rattle.cv_byte_trie.proofs.OneMore.{one_more_entry}
use Rattle.cv_charmap.specs.Entries.{Pair}
use Rattle.cv_charmap.specs.Headers.{header_of}
use Rattle.cv_charmap.specs.Lists.{most_pairs, repeats, clashes, overlaps, entered, pair_cause}
use Rattle.cv_charmap.specs.Maps.{IsMap, MeansMaps}
use Rattle.cv_charmap.specs.Meaning.{Charmap, Step, header_lines, steps_of, pairs_of, faults_of, lacks, decided}
use Rattle.cv_charmap.specs.Meaning.{meaning_of_lines}
use Rattle.cv_charmap.specs.Private.Covers.{pair_at}
use Rattle.cv_charmap.specs.Private.Runs.{run_steps, unless}
use Rattle.cv_charmap.specs.declared.fault.MapFault.{MapFault}
use Rattle.cv_charmap.proofs.FirstFaults.{by_fault, run_finds}
use Rattle.cv_charmap.proofs.FitEntries.{IsFitEntry, AreFitSteps, steps_fit}
use Rattle.cv_charmap.proofs.Meeting.{begins_true}

-- a number that passes the test is a scalar value
pub is_scalar_from : (n : ℕ) → is_scalar n ≡ true → IsScalar n
is_scalar_from n e = by (ltb n 0xD800) (leb 0xE000 n) (ltb n 0x110000) refl refl refl e
  where
    by : (a b c : Bool) → ltb n 0xD800 ≡ a → leb 0xE000 n ≡ b → ltb n 0x110000 ≡ c → (a || (b && c)) ≡ true → IsScalar n
    by true b c a_is b_is c_is h = (let l = ltb-true n 0xD800 a_is in (omega arith, λ m. omega arith))
    by false true true a_is b_is c_is h =
        (let l = leb-true 0xE000 n b_is in let m = ltb-true n 0x110000 c_is in (omega arith, λ k. omega arith))
    by false true false a_is b_is c_is h = absurd (cc)
    by false false c a_is b_is c_is h = absurd (cc)

-- pairs so far
abbrev IsSoFar : List Pair → Type 0
IsSoFar all = AreEntries all × (length all ≤ most_pairs)

test_at : (f : Pair → Bool) (all : List Pair) (k : ℕ) → list_any f all ≡ false → k < length all
    → f (pair_at all k) ≡ false
test_at f all k e low = elim (cases_Bool
    (f (pair_at all k))) [ inl h ↦ absurd (false≢true (sym e ∙ list_any_at f all k ([], 0) low h)) | inr h ↦ h ]

-- a pair that neither repeats, clashes nor overlaps meets none
meets_none : (all : List Pair) (p : Pair) → list_any (repeats p) all ≡ false → list_any (clashes p) all ≡ false
    → list_any (overlaps p) all ≡ false → MeetsNone all p.0
meets_none all p r c o k low =
    let q = pair_at all k in
    let other : bytes_eq q.0 p.0 ≡ false =
    differ (bytes_eq q.0 p.0) (q.1 == p.1) (test_at (repeats p) all k r low) (test_at (clashes p) all k c low) in
    let neither = or_parts (begins q.0 p.0) (begins p.0 q.0) (rw other at (test_at (overlaps p) all k o low)) in
    (λ f. false≢true (sym neither.1 ∙ begins_true q.0 p.0 f), λ f. false≢true (sym neither.0 ∙ begins_true p.0 q.0 f))
  where
    differ : (e s : Bool) → (e && s) ≡ false → (e && not s) ≡ false → e ≡ false
    differ true true a b = absurd (cc)
    differ true false a b = absurd (cc)
    differ false s a b = refl

-- one more pair without a cause
entered_so_far : (all : List Pair) (p : Pair) → pair_cause all p ≡ None → IsFitEntry (Ok p) → IsSoFar all
    → IsSoFar (entered all p)
unfolding pair_cause
entered_so_far all p e fit so_far = by (list_any (clashes p) all) (list_any (overlaps p) all) (list_any (repeats p) all)
    (leb most_pairs (length all)) refl refl refl refl e
  where
    by : (c o r m : Bool) → list_any (clashes p) all ≡ c → list_any (overlaps p) all ≡ o
        → list_any (repeats p) all ≡ r → leb most_pairs (length all) ≡ m → cond c (Some Clash)
        (cond o (Some Prefix) (cond (not r && m) (Some TooMany) None)) ≡ None → IsSoFar (cond r all (all ++ p ∷ []))
    by true o r m c_is o_is r_is m_is h = absurd (cc)
    by false true r m c_is o_is r_is m_is h = absurd (cc)
    by false false true m c_is o_is r_is m_is h = so_far
    by false false false true c_is o_is r_is m_is h = absurd (cc)
    by false false false false c_is o_is r_is m_is h = (
      one_more_entry all p so_far.0 (meets_none all p r_is c_is o_is) fit.0 fit.1 (is_scalar_from p.1 fit.2),
      (let room = leb-false most_pairs (length all) m_is in omega (arith, length-append all (p ∷ []))),
    )

-- a run over entries
run_so_far : (all : List Pair) (steps : List Step) (after : List Pair) → AreFitSteps steps → IsSoFar all
    → run_steps all steps ≡ Ok after → IsSoFar after
run_so_far all [] after f s e = (let same : all ≡ after = cc in subst IsSoFar same s)
run_so_far all ((n, Ok p) ∷ steps) after f s e = by (pair_cause all p) refl
    (λ none h. run_so_far (entered all p) steps after f.1 (entered_so_far all p none f.0 s) h) e
  where
    by : (o : Option Cause) → pair_cause all p ≡ o → (pair_cause all p ≡ None → run_steps (entered all p) steps
        ≡ Ok after → IsSoFar after) → unless o n (run_steps (entered all p) steps) ≡ Ok after → IsSoFar after
    by None is rest h = rest is h
    by (Some cause) is rest h = absurd (cc)
run_so_far all ((n, Err cause) ∷ steps) after f s e = absurd (cc)

no_pairs : IsSoFar []
no_pairs = (
  record {
    some = λ k l. absurd (omega arith);
    short = λ k l. absurd (omega arith);
    scalar = λ k l. absurd (omega arith);
    apart = λ j k l h f. absurd (omega arith);
  },
  omega arith,
)

-- what follows if the outcome is a charmap
pub record IsDecided (fault : Option MapFault) (lack : Option Cause) (pairs : List Pair)
    (charmap : Charmap) : Type 0 where
  pub no_fault : fault ≡ None
  pub no_lack : lack ≡ None
  pub pairs_are : pairs ≡ charmap.pairs

is_decided : (fault : Option MapFault) (lack : Option Cause) (name : Option (List ℕ)) (pairs : List Pair)
    (charmap : Charmap) → decided fault lack name pairs ≡ Ok charmap → IsDecided fault lack pairs charmap
is_decided (Some f) lack name pairs charmap e = absurd (cc)
is_decided None (Some c) name pairs charmap e = absurd (cc)
is_decided None None None pairs charmap e = absurd (cc)
is_decided None None (Some name) pairs charmap e =
    record {
      no_fault = refl;
      no_lack = refl;
      pairs_are =
          (let same : record { name = name; pairs = pairs } ≡ charmap = cc in ap (λ (c : Charmap). c.pairs) same);
    }

-- a text that lacks nothing has the question mark
not_lacking : (begun finished nameless enough : Bool) → cond (not begun) (Some NoMap) (cond (not finished) (Some NoEnd)
    (cond nameless (Some NoName) (cond (not enough) (Some NoSubstitute) None))) ≡ None → enough ≡ true
not_lacking false f n e h = absurd (cc)
not_lacking true false n e h = absurd (cc)
not_lacking true true true e h = absurd (cc)
not_lacking true true false true h = refl
not_lacking true true false false h = absurd (cc)

-- if a text means a name and pairs, these are a charmap's
pub means_maps : MeansMaps
unfolding meaning_of_lines
means_maps text charmap e =
    let lines = lines_of text in
    let name : Option (List ℕ) = (header_of (header_lines lines)).name in
    let steps : List Step = steps_of lines in
    let d =
    is_decided (slice_get (faults_of steps) 0) (lacks lines name (pairs_of steps)) name (pairs_of steps) charmap e in
    let run : run_steps [] steps ≡ Ok (pairs_of steps) = run_finds steps
    ∙ ap (λ (f : Option MapFault). by_fault f (pairs_of steps)) d.no_fault in
    let s = run_so_far [] steps (pairs_of steps) (steps_fit lines) no_pairs run in
    subst IsMap d.pairs_are (record {
      entries = s.0;
      substitute = not_lacking (list_any is_begin lines) (list_any is_finish (after_first is_begin lines))
          (is_none name) (list_any (λ p. p.1 == question) (pairs_of steps)) d.no_lack;
      few = s.1;
    })
