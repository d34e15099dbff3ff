-- Direct characters of a run of ASCII, the first of which are in a buffer.
use Rattle.std.proofs.Common.{◌≡◌, ℕ, ◌+◌, ◌-◌, ◌*◌, ◌<◌, ◌≤◌, true, List, [], ◌∷◌, ◌++◌, length, take, drop, get_or}
use Rattle.std.proofs.Common.{sym, ◌∙◌, ap, arith, append_assoc, length-take, get_or-take}
use Rattle.std.proofs.Math.Nat.{mul-le-mul_left}
use Rattle.std.proofs.lemmas.List.{take_at}
use Rattle.cv_base.specs.Ascii.{AreBelow}
use Rattle.cv_base.specs.Blocks.{IsWrittenRun}
use Rattle.cv_base.specs.Units.{unit_size}
use Rattle.cv_base.specs.declared.ascii_form.AsciiForm.{AsciiForm}
use Rattle.cv_base.specs.declared.ascii_form.AsciiForm.TheVariants.{Byte}
use Rattle.cv_base.specs.declared.state.WriteState.TheVariants as write
use Rattle.cv_base.proofs.BlockLaws.{each_byte}
use Rattle.cv_base.proofs.Front.{Begins-take}
use Rattle.cv_block.specs.AsciiRuns.{bytes_of_units, IsRunBelow, characters_in}
use Rattle.cv_block.proofs.AsciiRuns.{length-run, run_is_below, run_begins, characters_join}
use Rattle.cv_utf7.specs.Sets.{is_direct}
use Rattle.cv_utf7.specs.Utf7.{utf7_writes}
use Rattle.cv_utf7.proofs.SetMembers.{written_lt}
use Rattle.cv_utf7.proofs.WriteRuns.{AreDirect, are_direct, direct_output}

-- the characters of a run are at the start of what it was written to, and so are the first of them
first_of_run : (form : AsciiForm) (text ascii behind : List ℕ) (n run : ℕ) → run ≤ n
    → ascii ≡ bytes_of_units Byte (characters_in form text n) ++ behind → take run ascii ≡ characters_in form text run
first_of_run form text ascii behind n run few put =
    let m : ℕ = n - run in
    let first : List ℕ = characters_in form text run in
    let more : List ℕ = characters_in form (drop (unit_size form * run) text) m in
    let whole : run + m ≡ n = omega arith in
    let parts : characters_in form text n ≡ first ++ more = ap (characters_in form text) (sym whole)
    ∙ characters_join form text run m in
    let is : ascii ≡ first ++ (more ++ behind) = put ∙ ap (λ (x : List ℕ). x ++ behind)
    (each_byte (characters_in form text n) ∙ parts) ∙ append_assoc first more behind in
    let long : length first ≡ run = ap length (sym (each_byte first)) ∙ length-run form Byte text run ∙ omega arith in
    ap (take run) is ∙ take_at first (more ++ behind) run long

-- the direct characters at the start of a run were put
pub direct_units : (form : AsciiForm) (text before : List ℕ) (at n run : ℕ) (ascii behind after : List ℕ) → unit_size
    form * n ≤ length text → IsRunBelow 128 form text n → ascii ≡ bytes_of_units Byte (characters_in form text n)
    ++ behind → run ≤ n → ((i : ℕ) → i < run → is_direct (get_or ascii i 0) ≡ true) → at + run ≤ length before
    → after ≡ take at before ++ take run ascii ++ drop (at + run) before
    → IsWrittenRun utf7_writes write.Start form text before at run after
direct_units form text before at n run ascii behind after stand small put few direct fits out =
    let first : List ℕ = characters_in form text run in
    let same : take run ascii ≡ first = first_of_run form text ascii behind n run few put in
    let long : length first ≡ run = ap length (sym (each_byte first)) ∙ length-run form Byte text run ∙ omega arith in
    let within : unit_size form * run ≤ unit_size form * n = mul-le-mul_left (unit_size form) few in
    let below : IsRunBelow 128 form text run = (λ k l. small k (omega arith)) in
    record {
      characters = first;
      small = run_is_below 128 (omega arith) form text run below;
      stand = run_begins 128 (omega arith) form text run (omega arith) below;
      written = direct_output first (rw same at (are_direct run ascii (λ i l m. direct i l)));
      put = record {
        wrote = sym long;
        fits = fits;
        out = out ∙ ap (λ (x : List ℕ). take at before ++ x ++ drop (at + run) before) same;
      };
    }

-- direct characters are ASCII
direct_below : (characters : List ℕ) → AreDirect characters → AreBelow 128 characters
direct_below [] d = tt
direct_below (c ∷ characters) d = (written_lt c d.0, direct_below characters d.1)

-- the direct bytes at the start of a text were put
pub direct_bytes : (text before : List ℕ) (at most run : ℕ) (after : List ℕ) → run ≤ length (take most text) → ((i : ℕ)
    → i < run → is_direct (get_or (take most text) i 0) ≡ true) → at + run ≤ length before → after ≡ take at before
    ++ take run text ++ drop (at + run) before → IsWrittenRun utf7_writes write.Start Byte text before at run after
direct_bytes text before at most run after within direct fits out =
    let first : List ℕ = take run text in
    let few : run ≤ most = omega (arith, length-take most text) in
    let are : AreDirect first =
    are_direct run text (λ i l m. sym (ap is_direct (get_or-take most text i 0 (omega arith))) ∙ direct i l) in
    record {
      characters = first;
      small = direct_below first are;
      stand = rw (each_byte first) (Begins-take run text);
      written = direct_output first are;
      put = record { wrote = omega (arith, length-take run text, length-take most text); fits = fits; out = out };
    }
