-- A run of ASCII that is converted, unit by unit.
use Rattle.std.proofs.Common.{◌≡◌, ℕ, ◌+◌, ◌*◌, ◌<◌, ◌≤◌, List, [], ◌∷◌, ◌++◌, length, take, drop, refl, sym, ◌∙◌, ap}
use Rattle.std.proofs.Common.{ap₂, arith}
use Rattle.std.specs.List.{flat_map}
use Rattle.cv_base.specs.Ascii.{AreBelow}
use Rattle.cv_base.specs.Scalars.{AreScalars}
use Rattle.cv_base.specs.Units.{unit_of, unit_size}
use Rattle.cv_base.specs.declared.ascii_form.AsciiForm.{AsciiForm}
use Rattle.cv_block.specs.AsciiRuns.{IsRunBelow, characters_in, bytes_of_units}
use Rattle.cv_block.specs.StatelessForms.{BytesOf}
use Rattle.cv_block.proofs.AsciiRuns.{length-run, run_begins, run_is_below}
use Rattle.cv_transcode.specs.Runs.{IsTranscoded}

-- A spelling has the unit of each character of ASCII.
abbrev pub SpellsAscii : AsciiForm → BytesOf → Type 0
SpellsAscii form bytes_of = (c : ℕ) → c < 128 → bytes_of c ≡ unit_of form c

ascii_scalars : (characters : List ℕ) → AreBelow 128 characters → AreScalars characters
ascii_scalars [] h = tt
ascii_scalars (c ∷ characters) h =
    ((omega (arith, h.0), λ p. absurd (omega (arith, h.0, p))), ascii_scalars characters h.1)

ascii_bytes : (form : AsciiForm) (bytes_of : BytesOf) → SpellsAscii form bytes_of → (characters : List ℕ)
    → AreBelow 128 characters → flat_map bytes_of characters ≡ bytes_of_units form characters
ascii_bytes form bytes_of spells [] h = refl
ascii_bytes form bytes_of spells (c ∷ characters) h = ap₂ (λ (x y : List ℕ). x ++ y) (spells c h.0)
    (ascii_bytes form bytes_of spells characters h.1)

-- the first n units of a text, which are ASCII and were written in another form, are converted
pub ascii_converted : (form target : AsciiForm) (from to : BytesOf) → SpellsAscii form from → SpellsAscii target to
    → (text before : List ℕ) (at n : ℕ) (after : List ℕ) → unit_size form * n ≤ length text
    → at + unit_size target * n ≤ length before
    → IsRunBelow 128 form text n → after ≡ take at before ++ bytes_of_units target (characters_in form text n)
    ++ drop (at + unit_size target * n) before
    → IsTranscoded from to text before at (record { used = unit_size form * n; wrote = unit_size target * n }) after
ascii_converted form target from to reads writes text before at n after within fits run out =
    let characters = characters_in form text n in
    let below = run_is_below 128 (omega arith) form text n run in
    let read = ascii_bytes form from reads characters below in
    let wrote = ascii_bytes target to writes characters below in
    record {
      characters = characters;
      scalars = ascii_scalars characters below;
      begins = rw read (run_begins 128 (omega arith) form text n within run);
      uses = sym (ap length read ∙ length-run form form text n);
      put = record { wrote = sym (ap length wrote ∙ length-run form target text n); fits = fits; out = rw wrote out };
    }
