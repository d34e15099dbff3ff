-- A run over the lines of a charmap finds its meaning.
use Rattle.std.proofs.Common.{◌≡◌, ℕ, suc, ◌+◌, min, Bool, true, false, cond, List, [], ◌∷◌, ◌++◌, map, take, drop}
use Rattle.std.proofs.Common.{refl, sym, ◌∙◌, ap, subst, arith, inl, inr, ◌⊎◌, Option, Some, None}
use Rattle.std.specs.Prelude.{not, ◌||◌, ◌==◌, slice_get, is_none, fold, Result, Ok, Err}
use Rattle.std.specs.List.{before_first, after_first, list_any, position_or_len}
use Rattle.std.proofs.lemmas.Bool.{cases_Bool}
use Rattle.cv_base.specs.Scalars.{question}
use Rattle.cv_lex.specs.Declarations.{Declared, declaration_of}
use Rattle.cv_lex.specs.Mappings.{Mapping, mapping_of}
use Rattle.cv_lex.specs.Mappings as maps
use Rattle.cv_lex.specs.Readings.{Reading, Skip, Begin, Finish, Declares, Maps, is_begin, is_finish, reading_of}
use Rattle.cv_lex.specs.declared.cause.Cause.{Cause}
use Rattle.cv_lex.specs.declared.cause.Cause.TheVariants.{NoMap, NoEnd, NoName, NoSubstitute}
use Rattle.cv_charmap.specs.Entries.{Pair, sized_entries}
use Rattle.cv_charmap.specs.Headers.{Header, undeclared, with_said, header_of, marks_by}
use Rattle.cv_charmap.specs.Meaning.{Charmap, Step, header_lines, entries_by, header_entries, mapping_entries}
use Rattle.cv_charmap.specs.Meaning.{numbered, steps_of, pairs_of, faults_of, decided, meaning_of_lines}
use Rattle.cv_charmap.specs.Private.Runs.{◌>>=◌, fault, run_steps, run_entries, state, above_by, inside_by}
use Rattle.cv_charmap.specs.Private.Runs.{next_number, line_run, lines_run, whole_by, finish_run, run_of}
use Rattle.cv_charmap.proofs.FirstFaults.{by_fault, run_finds, run_append}
use Rattle.cv_charmap.proofs.LineKinds.{Marked, stays_marked, skipped_says_nothing, begin_read, finish_read}
use Rattle.cv_charmap.proofs.LineKinds.{header_read, mapping_read}
use Rattle.cv_charmap.specs.declared.fault.MapFault.{MapFault}
use Rattle.cv_charmap.specs.declared.phase.Phase.TheVariants.{Above, Inside, Behind}

-- ---- lists up to the first that passes

before_yes : {X : Type 0} (p : X → Bool) (x : X) (xs : List X) → p x ≡ true → before_first p (x ∷ xs) ≡ []
before_yes p x xs e = rw e refl

before_no : {X : Type 0} (p : X → Bool) (x : X) (xs : List X) → p x ≡ false
    → before_first p (x ∷ xs) ≡ x ∷ before_first p xs
before_no p x xs e =
    let n : position_or_len p (x ∷ xs) ≡ suc (position_or_len p xs) = rw e (omega arith) in
    ap (λ (k : ℕ). take k (x ∷ xs)) n

after_yes : {X : Type 0} (p : X → Bool) (x : X) (xs : List X) → p x ≡ true → after_first p (x ∷ xs) ≡ xs
after_yes p x xs e = rw e refl

after_no : {X : Type 0} (p : X → Bool) (x : X) (xs : List X) → p x ≡ false → after_first p (x ∷ xs) ≡ after_first p xs
after_no p x xs e =
    let n : position_or_len p (x ∷ xs) + 1 ≡ suc (position_or_len p xs + 1) = rw e (omega arith) in
    ap (λ (k : ℕ). drop k (x ∷ xs)) n

-- ---- the mappings

-- lines after the mappings mean nothing
pub behind_stays : (h : Header) (all : List Pair) (n : ℕ) (lines : List (List ℕ))
    → lines_run (state h all Behind n) lines >>= finish_run ≡ whole_by h.name all
unfolding line_run
behind_stays h all n [] = refl
behind_stays h all n (line ∷ lines) = behind_stays h all (next_number n) lines

-- what is left to decide after the mappings
abbrev ended : Bool → Option (List ℕ) → List Pair → Result Charmap MapFault
ended true name all = whole_by name all
ended false name all = Err (fault 0 NoEnd)

number_steps : (k n : ℕ) → k ≡ min n 4294967295 → next_number k ≡ min (n + 1) 4294967295
number_steps k n e = omega arith

bind_bind : {A B C : Type 0} (r : Result A MapFault) (f : A → Result B MapFault) (g : B → Result C MapFault)
    → (r >>= f) >>= g ≡ r >>= (λ x. f x >>= g)
bind_bind (Ok x) f g = refl
bind_bind (Err e) f g = refl

bind_same : {A B : Type 0} (r : Result A MapFault) (f g : A → Result B MapFault) → ((x : A) → f x ≡ g x)
    → r >>= f ≡ r >>= g
bind_same (Ok x) f g e = e x
bind_same (Err c) f g e = refl

-- a run over the mapping lines, and then what is left to decide
abbrev rest_of : Header → List Pair → ℕ → List (List ℕ) → Result Charmap MapFault
rest_of h all n lines = run_steps all (numbered n (mapping_entries h (before_first is_finish lines))) >>= λ a.
    ended (list_any is_finish lines) h.name a

-- a reading that doesn't end the mappings
abbrev IsPlain : Result Reading Cause → Type 0
IsPlain (Err c) = Unit {0}
IsPlain (Ok Skip) = Unit {0}
IsPlain (Ok Begin) = Unit {0}
IsPlain (Ok Finish) = ⊥
IsPlain (Ok (Declares d)) = Unit {0}
IsPlain (Ok (Maps m)) = Unit {0}

plain_mapping : (o : Result Mapping Cause) → IsPlain (maps.◌>>=◌ o (λ m. Ok (Maps m)))
plain_mapping (Ok m) = tt
plain_mapping (Err c) = tt

inside_step : (h : Header) (all : List Pair) (r : Result Reading Cause) (lines : List (List ℕ)) (n k0 k : ℕ) → k ≡ min
    (n + 1) 4294967295 → IsPlain r → ((a : List Pair) → lines_run (state h a Inside k) lines >>= finish_run ≡ rest_of h
    a (n + 1 + 1) lines) → (inside_by (state h all Inside k0) k r >>= (λ t. lines_run t lines)) >>= finish_run
    ≡ run_steps all (map (λ entry. (min (n + 1) 4294967295, entry)) (entries_by h r) ++ numbered (n + 1 + 1)
    (mapping_entries h (before_first is_finish lines))) >>= (λ a. ended (list_any is_finish lines) h.name a)
unfolding run_entries
inside_step h all (Err c) lines n k0 k e p rec = ap (λ (n : ℕ). Err (fault n c)) e
inside_step h all (Ok Skip) lines n k0 k e p rec = rec all
inside_step h all (Ok Begin) lines n k0 k e p rec = rec all
inside_step h all (Ok Finish) lines n k0 k e p rec = absurd p
inside_step h all (Ok (Declares d)) lines n k0 k e p rec = rec all
inside_step h all (Ok (Maps m)) lines n k0 k e p rec =
    let entries : List (Result Pair Cause) = sized_entries h.least h.most m in
    let rest : List Step = numbered (n + 1 + 1) (mapping_entries h (before_first is_finish lines)) in
    let run : Result (List Pair) MapFault = run_steps all (map (λ entry. (k, entry)) entries) in
    let last : List Pair → Result Charmap MapFault = λ a. ended (list_any is_finish lines) h.name a in
    bind_bind (run >>= (λ a. Ok (state h a Inside k))) (λ t. lines_run t lines) finish_run
    ∙ bind_bind run (λ a. Ok (state h a Inside k)) (λ t. lines_run t lines >>= finish_run)
    ∙ bind_same run (λ a. lines_run (state h a Inside k) lines >>= finish_run) (λ a. run_steps a rest >>= last) rec
    ∙ ap (λ (n : ℕ). run_steps all (map (λ entry. (n, entry)) entries) >>= (λ a. run_steps a rest >>= last)) e ∙ sym
    (bind_bind (run_steps all (map (λ entry. (min (n + 1) 4294967295, entry)) entries)) (λ a. run_steps a rest) last)
    ∙ ap (λ (r : Result (List Pair) MapFault). r >>= last)
    (sym (run_append all (map (λ entry. (min (n + 1) 4294967295, entry)) entries) rest))

inside_run : (h : Header) (lines : List (List ℕ)) (all : List Pair) (k n : ℕ) → Marked h → k ≡ min n 4294967295
    → lines_run (state h all Inside k) lines >>= finish_run ≡ rest_of h all (n + 1) lines
unfolding line_run
inside_run h [] all k n m e = refl
inside_run h (line ∷ lines) all k n m e = elim (cases_Bool (is_finish line)) [
  | inl is ↦
      ap (λ r. (inside_by (state h all Inside k) (next_number k) r >>= (λ t. lines_run t lines)) >>= finish_run)
      (finish_read h line m is) ∙ behind_stays h all (next_number k) lines ∙ sym (
      ap (λ (ls : List (List ℕ)). run_steps all (numbered (n + 1) (mapping_entries h ls)) >>=
      (λ a. ended (list_any is_finish (line ∷ lines)) h.name a)) (before_yes is_finish line lines is)
      ∙ ap (λ (b : Bool). ended (b || list_any is_finish lines) h.name all) is
      )
  | inr other ↦
      let plain : IsPlain (reading_of (marks_by h true) line) = elim (mapping_read h line other) [
        | inl s ↦ subst IsPlain (sym s) tt
        | inr s ↦ subst IsPlain (sym s) (plain_mapping (mapping_of h.escape line))
      ] in
      inside_step h all (reading_of (marks_by h true) line) lines n k (next_number k) (number_steps k n e) plain
      (λ a. inside_run h lines a (next_number k) (n + 1) m (number_steps k n e)) ∙ sym (
      ap (λ (ls : List (List ℕ)). run_steps all (numbered (n + 1) (mapping_entries h ls)) >>=
      (λ a. ended (list_any is_finish (line ∷ lines)) h.name a)) (before_no is_finish line lines other)
      ∙ ap (λ (b : Bool). run_steps all (numbered (n + 1) (mapping_entries h (line ∷ before_first is_finish lines))) >>=
      (λ a. ended (b || list_any is_finish lines) h.name a)) other
      )
]

-- ---- the header

abbrev settled : Header → List (List ℕ) → Header
settled h lines = fold (λ h line. with_said h (declaration_of line)) h lines

abbrev above_ended : Bool → List (List ℕ) → Option (List ℕ) → List Pair → Result Charmap MapFault
above_ended begun after name all = cond begun (ended (list_any is_finish after) name all) (Err (fault 0 NoMap))

-- a run over header lines, then over the lines that follow them, and then what is left to decide
abbrev shape : Header → ℕ → List (List ℕ) → List (List ℕ) → Bool → Result Charmap MapFault
shape h n header after begun = run_steps [] (numbered n (header_entries h header ++ [] ∷ mapping_entries
    (settled h header) (before_first is_finish after))) >>= λ a. above_ended begun after (settled h header).name a

above_step : (h : Header) (o : Result Declared Cause) (r : Result Reading Cause) (lines header after : List (List ℕ))
    (begun : Bool) (n k0 k : ℕ) → k ≡ min (n + 1) 4294967295
    → ((r ≡ Ok Skip) × (with_said h o ≡ h)) ⊎ (r ≡ maps.◌>>=◌ o (λ d. Ok (Declares d))) → lines_run
    (state (with_said h o) [] Above k) lines >>= finish_run ≡ shape (with_said h o) (n + 1 + 1) header after begun
    → (above_by (state h [] Above k0) k r >>= (λ t. lines_run t lines)) >>= finish_run ≡ run_steps [] (numbered (n + 1)
    (entries_by h r ∷ (header_entries (with_said h o) header ++ [] ∷ mapping_entries (settled (with_said h o) header)
    (before_first is_finish after)))) >>= (λ a. above_ended begun after (settled (with_said h o) header).name a)
above_step h o r lines header after begun n k0 k e (inl p) rec = skipped r p.0
  where
    skipped : (r : Result Reading Cause) → r ≡ Ok Skip → (above_by (state h [] Above k0) k r >>=
        (λ t. lines_run t lines)) >>= finish_run ≡ run_steps [] (numbered (n + 1) (entries_by h r
        ∷ (header_entries (with_said h o) header ++ [] ∷ mapping_entries (settled (with_said h o) header)
        (before_first is_finish after)))) >>= (λ a. above_ended begun after (settled (with_said h o) header).name a)
    skipped r is = rw is (ap (λ (g : Header). lines_run (state g [] Above k) lines >>= finish_run) (sym p.1) ∙ rec)
above_step h (Ok d) r lines header after begun n k0 k e (inr p) rec = rw p rec
above_step h (Err c) r lines header after begun n k0 k e (inr p) rec = rw p (ap (λ (n : ℕ). Err (fault n c)) e)

above_run : (h : Header) (lines : List (List ℕ)) (k n : ℕ) → Marked h → k ≡ min n 4294967295
    → lines_run (state h [] Above k) lines >>= finish_run
    ≡ shape h (n + 1) (before_first is_begin lines) (after_first is_begin lines) (list_any is_begin lines)
unfolding line_run
above_run h [] k n m e = refl
above_run h (line ∷ lines) k n m e = elim (cases_Bool (is_begin line)) [
  | inl is ↦
      ap (λ r. (above_by (state h [] Above k) (next_number k) r >>= (λ t. lines_run t lines)) >>= finish_run)
      (begin_read h line m is) ∙ inside_run h lines [] (next_number k) (n + 1) m (number_steps k n e) ∙ sym (
      ap (λ (ls : List (List ℕ)). shape h (n + 1) ls (after_first is_begin (line ∷ lines))
      (list_any is_begin (line ∷ lines))) (before_yes is_begin line lines is)
      ∙ ap (λ (ls : List (List ℕ)). shape h (n + 1) [] ls (list_any is_begin (line ∷ lines)))
      (after_yes is_begin line lines is) ∙ ap (λ (b : Bool). shape h (n + 1) [] lines (b || list_any is_begin lines)) is
      )
  | inr other ↦
      let o = declaration_of line in
      let kind : ((reading_of (marks_by h false) line ≡ Ok Skip) × (with_said h o ≡ h))
      ⊎ (reading_of (marks_by h false) line ≡ maps.◌>>=◌ o (λ d. Ok (Declares d))) =
      elim (header_read h line other) [ inl s ↦ inl (s.1, skipped_says_nothing h false line s.0) | inr s ↦ inr s ] in
      above_step h o (reading_of (marks_by h false) line) lines (before_first is_begin lines)
      (after_first is_begin lines) (list_any is_begin lines) n k (next_number k) (number_steps k n e) kind
      (above_run (with_said h o) lines (next_number k) (n + 1) (stays_marked h line m) (number_steps k n e)) ∙ sym (
      ap (λ (ls : List (List ℕ)). shape h (n + 1) ls (after_first is_begin (line ∷ lines))
      (list_any is_begin (line ∷ lines))) (before_no is_begin line lines other)
      ∙ ap (λ (ls : List (List ℕ)). shape h (n + 1) (line ∷ before_first is_begin lines) ls
      (list_any is_begin (line ∷ lines))) (after_no is_begin line lines other) ∙ ap (λ (b : Bool). shape h (n + 1)
      (line ∷ before_first is_begin lines) (after_first is_begin lines) (b || list_any is_begin lines)) other
      )
]

-- ---- the whole

abbrev whole_if : Option (List ℕ) → Bool → List Pair → Result Charmap MapFault
whole_if None enough all = Err (fault 0 NoName)
whole_if (Some name) enough all = cond enough (Ok (record { name = name; pairs = all })) (Err (fault 0 NoSubstitute))

whole_same : (name : Option (List ℕ)) (all : List Pair)
    → whole_by name all ≡ whole_if name (list_any (λ p. p.1 == question) all) all
whole_same None all = refl
whole_same (Some name) all = refl

enough_by : (b : Bool) (name : Option (List ℕ)) (all : List Pair) → whole_if name b all
    ≡ decided None (cond (is_none name) (Some NoName) (cond (not b) (Some NoSubstitute) None)) name all
enough_by b None all = refl
enough_by true (Some name) all = refl
enough_by false (Some name) all = refl

each : (f : Option MapFault) (all : List Pair) (begun finished : Bool) (name : Option (List ℕ))
    → by_fault f all >>= (λ a. cond begun (ended finished name a) (Err (fault 0 NoMap)))
    ≡ decided f (cond (not begun) (Some NoMap) (cond (not finished) (Some NoEnd) (cond (is_none name) (Some NoName)
    (cond (not (list_any (λ p. p.1 == question) all)) (Some NoSubstitute) None)))) name all
each (Some f) all begun finished name = refl
each None all false finished name = refl
each None all true false name = refl
each None all true true name = whole_same name all ∙ enough_by (list_any (λ p. p.1 == question) all) name all

-- THE READING IS THE MEANING
pub run_means : (lines : List (List ℕ)) → run_of lines ≡ meaning_of_lines lines
unfolding meaning_of_lines
run_means lines =
    let name : Option (List ℕ) = (header_of (header_lines lines)).name in
    let steps : List Step = steps_of lines in
    let begun : Bool = list_any is_begin lines in
    let after : List (List ℕ) = after_first is_begin lines in
    above_run undeclared lines 0 0 refl refl
    ∙ ap (λ (r : Result (List Pair) MapFault). r >>= (λ a. above_ended begun after name a)) (run_finds steps)
    ∙ each (slice_get (faults_of steps) 0) (pairs_of steps) begun (list_any is_finish after) name
