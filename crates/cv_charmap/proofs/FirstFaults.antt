-- A run over entries finds the first fault, or the pairs.
use Rattle.std.proofs.Common.{◌≡◌, ℕ, ◌+◌, List, [], ◌∷◌, ◌++◌, length, take, drop, refl, sym, ◌∙◌, ap, append_assoc}
use Rattle.std.proofs.Common.{append-nil, length-append, Option, Some, None}
use Rattle.std.specs.Prelude.{option_map, filter_map, slice_get, fold, Result, Ok, Err}
use Rattle.std.specs.List.{range_with_len, cons_option}
use Rattle.std.proofs.lemmas.List.{take_at, drop_at}
use Rattle.cv_lex.specs.declared.cause.Cause.{Cause}
use Rattle.cv_charmap.specs.Entries.{Pair}
use Rattle.cv_charmap.specs.Lists.{entered, distinct, entry_cause}
use Rattle.cv_charmap.specs.Meaning.{Step, pair_of, pairs_of, fault_by, faults_of}
use Rattle.cv_charmap.specs.Private.Runs.{◌>>=◌, fault, with_entry, unless, run_steps}
use Rattle.cv_charmap.specs.declared.fault.MapFault.{MapFault}

-- a fault, or a list
abbrev pub by_fault : {A : Type 0} → Option MapFault → A → Result A MapFault
by_fault (Some f) x = Err f
by_fault None x = Ok x

fold_append : (all : List Pair) (xs ys : List Pair)
    → fold entered all (xs ++ ys) ≡ fold entered (fold entered all xs) ys
fold_append all [] ys = refl
fold_append all (x ∷ xs) ys = fold_append (entered all x) xs ys

filter_append : (xs ys : List Step) → filter_map pair_of (xs ++ ys) ≡ filter_map pair_of xs ++ filter_map pair_of ys
filter_append [] ys = refl
filter_append ((n, Ok p) ∷ xs) ys = ap (λ (r : List Pair). p ∷ r) (filter_append xs ys)
filter_append ((n, Err c) ∷ xs) ys = filter_append xs ys

-- one more entry that is no cause
pairs_more : (done : List Step) (step : Step) → pairs_of (done ++ step ∷ []) ≡ with_entry (pairs_of done) step.1
pairs_more done (n, Ok p) = ap distinct (filter_append done ((n, Ok p) ∷ []))
    ∙ fold_append [] (filter_map pair_of done) (p ∷ [])
pairs_more done (n, Err c) = ap distinct (filter_append done ((n, Err c) ∷ []) ∙ append-nil (filter_map pair_of done))

-- the faults from an index on
abbrev faults_from : List Step → ℕ → ℕ → List MapFault
faults_from steps k n = filter_map (λ k. fault_by (pairs_of (take k steps)) (drop k steps)) (range_with_len k n)

run_from : (done rest : List Step) → run_steps (pairs_of done) rest
    ≡ by_fault (slice_get (faults_from (done ++ rest) (length done) (length rest)) 0) (pairs_of (done ++ rest))
run_from done [] = ap (λ (s : List Step). Ok (pairs_of s)) (sym (append-nil done))
run_from done (step ∷ rest) =
    let all : List Step = done ++ step ∷ rest in
    let here : fault_by (pairs_of (take (length done) all)) (drop (length done) all)
    ≡ option_map (λ cause. fault step.0 cause) (entry_cause (pairs_of done) step.1) =
    ap (λ (s : List Step). fault_by (pairs_of s) (drop (length done) all)) (take_at done (step ∷ rest)
    (length done) refl) ∙ ap (fault_by (pairs_of done)) (drop_at done (step ∷ rest) (length done) refl) in
    let more = run_from (done ++ step ∷ []) rest in
    let same : (done ++ step ∷ []) ++ rest ≡ all = append_assoc done (step ∷ []) rest in
    let place : length (done ++ step ∷ []) ≡ length done + 1 = length-append done (step ∷ []) in
    let tail : run_steps (with_entry (pairs_of done) step.1) rest
    ≡ by_fault (slice_get (faults_from all (length done + 1) (length rest)) 0) (pairs_of all) =
    ap (λ (a : List Pair). run_steps a rest) (sym (pairs_more done step)) ∙ more ∙ ap (λ (s : List Step).
    by_fault (slice_get (faults_from s (length (done ++ step ∷ [])) (length rest)) 0) (pairs_of s)) same
    ∙ ap (λ (k : ℕ). by_fault (slice_get (faults_from all k (length rest)) 0) (pairs_of all)) place in
    each (entry_cause (pairs_of done) step.1) (fault_by (pairs_of (take (length done) all)) (drop (length done) all))
    step.0 (run_steps (with_entry (pairs_of done) step.1) rest) (faults_from all (length done + 1) (length rest))
    (pairs_of all) here tail
  where
    each : (o : Option Cause) (f : Option MapFault) (n : ℕ) (r : Result (List Pair) MapFault) (faults : List MapFault)
        (pairs : List Pair) → f ≡ option_map (λ cause. fault n cause) o → r ≡ by_fault (slice_get faults 0) pairs
        → unless o n r ≡ by_fault (slice_get (cons_option f faults) 0) pairs
    each None f n r faults pairs e t = t
        ∙ ap (λ (g : Option MapFault). by_fault (slice_get (cons_option g faults) 0) pairs) (sym e)
    each (Some c) f n r faults pairs e t =
        ap (λ (g : Option MapFault). by_fault (slice_get (cons_option g faults) 0) pairs) (sym e)

-- a run over all entries finds the first fault, or else the pairs
pub run_finds : (steps : List Step) → run_steps [] steps ≡ by_fault (slice_get (faults_of steps) 0) (pairs_of steps)
run_finds steps = run_from [] steps

-- a run over one list after another
pub run_append : (all : List Pair) (xs ys : List Step)
    → run_steps all (xs ++ ys) ≡ run_steps all xs >>= (λ a. run_steps a ys)
run_append all [] ys = refl
run_append all (x ∷ xs) ys = each (entry_cause all x.1) x.0 (run_steps (with_entry all x.1) (xs ++ ys))
    (run_steps (with_entry all x.1) xs) (λ a. run_steps a ys) (run_append (with_entry all x.1) xs ys)
  where
    each : (o : Option Cause) (n : ℕ) (r s : Result (List Pair) MapFault) (f : List Pair → Result (List Pair) MapFault)
        → r ≡ s >>= f → unless o n r ≡ unless o n s >>= f
    each None n r s f e = e
    each (Some c) n r s f e = refl
