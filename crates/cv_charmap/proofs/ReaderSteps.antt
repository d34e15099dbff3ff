-- The reader's steps and its end.
use Rattle.std.proofs.Common.{◌≡◌, ℕ, List, [], ◌∷◌, refl, sym, ◌∙◌, ap, subst, true}
use Rattle.std.specs.Prelude.{Result, Ok, Err}
use Rattle.cv_lex.specs.Mappings.{Mapping}
use Rattle.cv_lex.specs.Readings.{Maps, reading_of}
use Rattle.cv_charmap.specs.Entries.{Pair, sized_entries}
use Rattle.cv_charmap.specs.Headers.{Header, marks_by}
use Rattle.cv_charmap.specs.Meaning.{Charmap, meaning_of_lines}
use Rattle.cv_charmap.specs.Private.Runs.{◌>>=◌, run_entries, State, state, line_run, lines_run, finish_run, run_of}
use Rattle.cv_charmap.specs.Private.Runs.{inside_by}
use Rattle.cv_charmap.specs.Private.Seen.{RunsTo, TakesInside, InsideTo, NextTo, after_entries, finished}
use Rattle.cv_charmap.specs.Results.{Reads}
use Rattle.cv_charmap.specs.declared.pair_list.EntryFault.{EntryFault}
use Rattle.cv_charmap.specs.declared.pair_list.EntryFault.TheVariants as entry
use Rattle.cv_charmap.specs.declared.fault.MapFault.{MapFault}
use Rattle.cv_charmap.specs.declared.fault.CompileFault.{CompileFault}
use Rattle.cv_charmap.specs.declared.fault.CompileFault.TheVariants as compile
use Rattle.cv_charmap.specs.declared.phase.Phase.{Phase}
use Rattle.cv_charmap.specs.declared.phase.Phase.TheVariants.{Above, Inside, Behind}
use Rattle.cv_charmap.proofs.RunMeaning.{run_means, behind_stays}

by_entries : (h : Header) (all : List Pair) (m : Mapping) (n : ℕ) (r : Result (Unit {0}) EntryFault) (after : List Pair)
    → RunsTo (run_entries all n (sized_entries h.least h.most m)) n r after
    → TakesInside h all (Maps m) n (after_entries r n) after
by_entries h all m n (Ok done) after e = λ k.
    ap (λ (run : Result (List Pair) MapFault). run >>= (λ all. Ok (state h all Inside n))) e
by_entries h all m n (Err (entry.Faulty cause)) after e = λ k.
    ap (λ (run : Result (List Pair) MapFault). run >>= (λ all. Ok (state h all Inside n))) e
by_entries h all m n (Err entry.Memory) after e = tt

-- a mapping among the mappings is a run over its entries
pub maps_inside : (h : Header) (all : List Pair) (m : Mapping) (n : ℕ) (r : Result (Unit {0}) EntryFault)
    (after : List Pair) → RunsTo (run_entries all n (sized_entries h.least h.most m)) n r after
    → (o : Result Phase CompileFault) → o ≡ after_entries r n → TakesInside h all (Maps m) n o after
maps_inside h all m n r after e o is = subst (λ (x : Result Phase CompileFault). TakesInside h all (Maps m) n x after)
    (sym is) (by_entries h all m n r after e)

-- the result of what a line among the mappings says is that of the line
said_inside : (h : Header) (all : List Pair) (line : List ℕ) (m : Mapping) (n : ℕ) (o : Result Phase CompileFault)
    (after : List Pair) → reading_of (marks_by h true) line ≡ Ok (Maps m) → TakesInside h all (Maps m) n o after
    → InsideTo h all line n o after
said_inside h all line m n (Ok phase) after e takes = λ k. ap (inside_by (state h all Inside k) n) e ∙ takes k
said_inside h all line m n (Err (compile.Map fault)) after e takes = λ k. ap (inside_by (state h all Inside k) n) e
    ∙ takes k
said_inside h all line m n (Err compile.Memory) after e takes = tt

-- the result of entering a mapping is that of its line
pub entered_inside : (h : Header) (all : List Pair) (line : List ℕ) (m : Mapping)
    (n : ℕ) (r : Result (Unit {0}) EntryFault) (after : List Pair) (o : Result Phase CompileFault) → reading_of
    (marks_by h true) line ≡ Ok (Maps m) → RunsTo (run_entries all n (sized_entries h.least h.most m)) n r after
    → o ≡ after_entries r n → InsideTo h all line n o after
entered_inside h all line m n r after o e runs is =
    said_inside h all line m n o after e (maps_inside h all m n r after runs o is)

-- a faulty line decides the meaning
pub stops : (lines rest more : List (List ℕ)) (s : State) (line : List ℕ) (why : CompileFault) (after : List Pair)
    → run_of lines ≡ lines_run s rest >>= finish_run → rest ≡ line ∷ more → NextTo s line (Err why) after
    → Reads (meaning_of_lines lines) (Err why)
stops lines rest more s line (compile.Map f) after so_far is e =
    sym (run_means lines) ∙ so_far ∙ ap (λ (ls : List (List ℕ)). lines_run s ls >>= finish_run) is
    ∙ ap (λ (r : Result State MapFault). (r >>= (λ t. lines_run t more)) >>= finish_run) e
stops lines rest more s line compile.Memory after so_far is e = tt

same_end : (phase : Phase) (h : Header) (all : List Pair) (n : ℕ)
    → finish_run (state h all phase n) ≡ finished phase h all
same_end Above h all n = refl
same_end Inside h all n = refl
same_end Behind h all n = refl

-- after the last line the rest is decided
pub ends : (lines rest : List (List ℕ)) (h : Header) (all : List Pair) (phase : Phase) (n : ℕ)
    (r : Result Charmap CompileFault) → run_of lines ≡ lines_run (state h all phase n) rest >>= finish_run → rest ≡ []
    → Reads (finished phase h all) r → Reads (meaning_of_lines lines) r
ends lines rest h all phase n r so_far none e =
    let same : meaning_of_lines lines ≡ finished phase h all = sym (run_means lines) ∙ so_far
    ∙ ap (λ (ls : List (List ℕ)). lines_run (state h all phase n) ls >>= finish_run) none ∙ same_end phase h all n in
    subst (λ (m : Result Charmap MapFault). Reads m r) (sym same) e

-- after a line that ends the mappings the rest is decided
pub ends_behind : (lines rest more : List (List ℕ)) (s : State) (line : List ℕ) (h : Header) (all : List Pair) (n : ℕ)
    (phase : Phase) (r : Result Charmap CompileFault) → run_of lines ≡ lines_run s rest >>= finish_run
    → rest ≡ line ∷ more → line_run s line ≡ Ok (state h all phase n) → phase ≡ Behind → Reads (finished phase h all) r
    → Reads (meaning_of_lines lines) r
ends_behind lines rest more s line h all n phase r so_far is next behind e =
    let to_rest : run_of lines ≡ lines_run (state h all phase n) more >>= finish_run =
    so_far ∙ ap (λ (ls : List (List ℕ)). lines_run s ls >>= finish_run) is
    ∙ ap (λ (x : Result State MapFault). (x >>= (λ t. lines_run t more)) >>= finish_run) next in
    let same : meaning_of_lines lines ≡ finished phase h all =
    sym (run_means lines) ∙ to_rest ∙ ap (λ (p : Phase). lines_run (state h all p n) more >>= finish_run) behind
    ∙ behind_stays h all n more ∙ sym (ap (λ (p : Phase). finished p h all) behind) in
    subst (λ (m : Result Charmap MapFault). Reads m r) (sym same) e
