-- Sixteen characters, written as units.
use Rattle.std.proofs.Common.{◌≡◌, ℕ, ◌+◌, ◌<◌, ◌≤◌, List, ◌++◌, length, take, drop, get_or, get_or-take, get_or-drop}
use Rattle.std.proofs.Common.{[], ◌∷◌, map, suc, refl, sym, ◌∙◌, ap, arith}
use Rattle.std.proofs.lemmas.Bool.{lt-ltb}
use Rattle.cv_utf8.specs.Utf8.{utf8_bytes}
use Rattle.std.specs.List.{flat_map}
use Rattle.cv_block.specs.Slack.{IsPutWithSlack}
use Rattle.cv_block.specs.StatelessForms.{BytesOf, IsWrittenForm}
use Rattle.cv_block.proofs.FormRuns.{spelled}

-- sixteen of some characters are below a limit
pub sixteen_below : (limit : ℕ) (characters units : List ℕ) (n : ℕ) → units ≡ take 16 (drop n characters)
    → ((k : ℕ) → k < 16 → get_or characters (n + k) 0 < limit) → (k : ℕ) → k < 16 → get_or units k 0 < limit
sixteen_below limit characters units n e p k h = rw (e, get_or-take, get_or-drop) (p k h)

-- the first eight of sixteen units are below a limit, as all are
pub first_below : (limit : ℕ) (units part : List ℕ) → part ≡ take 8 units
    → ((k : ℕ) → k < 16 → get_or units k 0 < limit) → (k : ℕ) → k < 8 → get_or part k 0 < limit
first_below limit units part e p k h = rw (e, get_or-take) (p k (omega arith))

-- so are the last eight
pub last_below : (limit : ℕ) (units part : List ℕ) → part ≡ drop 8 units
    → ((k : ℕ) → k < 16 → get_or units k 0 < limit) → (k : ℕ) → k < 8 → get_or part k 0 < limit
last_below limit units part e p k h = rw (e, get_or-drop) (p (8 + k) (omega arith))

-- characters are written if their bytes are put as those of units
pub put_written : (bytes_of : BytesOf) (characters units before : List ℕ) (n m at used slack : ℕ) (after : List ℕ)
    → units ≡ take m (drop n characters) → n + m ≤ length characters
    → IsPutWithSlack (flat_map bytes_of units) before at used slack after
    → IsWrittenForm bytes_of characters n before at (spelled m used) after
put_written bytes_of characters units before n m at used slack after e room p =
    let bytes = ap (flat_map bytes_of) e in
    record {
      within = room;
      uses = p.wrote ∙ ap length bytes;
      fits = p.fits;
      stand = p.stand ∙ ap (λ (x : List ℕ). take at before ++ x) bytes;
      size = p.size;
    }

-- units of ASCII, as bytes
pub ascii_are : (units : List ℕ) → ((k : ℕ) → k < length units → get_or units k 0 < 0x80)
    → map (λ (u : ℕ). u) units ≡ flat_map utf8_bytes units
ascii_are [] p = refl
ascii_are (u ∷ units) p =
    let one : utf8_bytes u ≡ u ∷ [] = rw (lt-ltb u 0x80 (p 0 (omega arith))) refl in
    ap (λ (x : List ℕ). u ∷ x) (ascii_are units (λ k h. p (suc k) (omega arith)))
    ∙ ap (λ (x : List ℕ). x ++ flat_map utf8_bytes units) (sym one)
