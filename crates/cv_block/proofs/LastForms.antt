-- The last characters of a text or of a block, which are read or written with others after them.
use Rattle.std.proofs.Common.{◌≡◌, ℕ, zero, suc, ◌+◌, ◌-◌, ◌*◌, ◌≤◌, List, [], ◌∷◌, ◌++◌, length, take, drop, refl, sym}
use Rattle.std.proofs.Common.{◌∙◌, ap, ap₂, arith, subst, slice_set, append_assoc, append-nil, length-append}
use Rattle.std.proofs.Common.{length-drop, length-take}
use Rattle.std.proofs.lemmas.List.{take_at, take-set, take-take}
use Rattle.std.proofs.lemmas.Grind.{flat_map-append}
use Rattle.std.proofs.Math.Seq.{take_all, take-append-add}
use Rattle.std.specs.List.{flat_map}
use Rattle.std.specs.Prelude.{replicate}
use Rattle.cv_base.proofs.Front.{Begins-append, Begins-meet, Begins-take, Begins-trans}
use Rattle.cv_base.specs.Items.{Begins}
use Rattle.cv_base.specs.Scalars.{AreScalars}
use Rattle.cv_base.specs.Units.{unit_size}
use Rattle.cv_base.specs.declared.ascii_form.AsciiForm.{AsciiForm}
use Rattle.cv_block.specs.StatelessForms.{BytesOf, IsReadForm, IsWrittenForm}
use Rattle.cv_block.specs.Units.{AreUnits, AreScalarsBelow, HasUnits}
use Rattle.cv_block.specs.declared.stateless_form.Converted.{Converted}
use Rattle.cv_block.proofs.FormRuns.{spelled}
use Rattle.cv_block.proofs.UnitRuns.{begun, all_scalars}

-- what begins a copy, and is no longer than the bytes of a text that the copy begins with, begins that text
begins_copied : (x front copy text : List ℕ) → Begins x copy → Begins front copy → length x ≤ length front
    → Begins front text → Begins x text
begins_copied x front copy text p q few h = Begins-trans x front text (Begins-meet x front copy p q few) h

-- bytes begin what they are copied to the start of, also if the next one is replaced
pub begins_replaced : (front more : List ℕ) (n x : ℕ) → length front ≡ n → Begins front (slice_set (front ++ more) n x)
begins_replaced front more n x e =
    let same : take n (slice_set (front ++ more) n x) ≡ front = take-set (front ++ more) n x ∙ take_at front more n e in
    rw same at (Begins-take n (slice_set (front ++ more) n x))

-- a list is as long after bytes are copied to its start
pub still_long : (m : ℕ) (front : List ℕ) (n : ℕ) (old : List ℕ) → length front ≡ n → n ≤ length old → m ≤ length old
    → m ≤ length (front ++ drop n old)
still_long m front n old e h k = omega (arith, length-append front (drop n old), length-drop n old)

-- what was read of the bytes at a place of a text, with others after them, was read of the text
pub read_copied : (bytes_of : BytesOf) (text : List ℕ) (at : ℕ) (before : List ℕ) (n : ℕ) (front copy : List ℕ)
    (run : Converted) (after : List ℕ) → Begins front copy → Begins front (drop at text) → run.used ≤ length front
    → IsReadForm bytes_of copy 0 before n run after → IsReadForm bytes_of text at before n run after
read_copied bytes_of text at before n front copy run after q h few p = record {
  characters = p.characters;
  scalars = p.scalars;
  begins = begins_copied (flat_map bytes_of p.characters) front copy (drop at text) p.begins q
      (omega (arith, p.uses)) h;
  uses = p.uses;
  counts = p.counts;
  stand = p.stand;
  fits = p.fits;
  size = p.size;
}

-- whatever was read, none of it counts
pub read_none : (bytes_of : BytesOf) (text others : List ℕ) (at place : ℕ) (before : List ℕ) (n : ℕ) (run : Converted)
    (after : List ℕ) → IsReadForm bytes_of others place before n run after
    → IsReadForm bytes_of text at before n (spelled 0 0) after
read_none bytes_of text others at place before n run after p = record {
  characters = [];
  scalars = tt;
  begins = tt;
  uses = refl;
  counts = refl;
  stand = ap (λ (i : ℕ). take i after) (let none : n + 0 ≡ n = omega arith in none)
      ∙ sym (take-take n (n + run.n) after (omega arith)) ∙ ap (take n) p.stand
      ∙ take_at (take n before) p.characters n (omega (arith, length-take n before, p.fits))
      ∙ sym (append-nil (take n before));
  fits = omega (arith, p.fits);
  size = p.size;
}

some_scalars : (k : ℕ) (numbers : List ℕ) → AreScalars numbers → AreScalars (take k numbers)
some_scalars zero numbers p = tt
some_scalars (suc k) [] p = tt
some_scalars (suc k) (c ∷ numbers) p = (p.0, some_scalars k numbers p.1)

-- the last units are characters if sixteen are, of which they are the first
pub last_read : (bytes_of : BytesOf) (form : AsciiForm) → HasUnits form bytes_of → (text : List ℕ) (at : ℕ)
    (before : List ℕ) (n left used : ℕ) (front pad numbers after : List ℕ) → length numbers ≡ 16 → left ≤ 16
    → used ≡ unit_size form * left → length front ≡ used → Begins front (drop at text)
    → AreUnits form (front ++ pad) numbers 16 → AreScalarsBelow numbers 16 → n + 16 ≤ length before
    → take (n + 16) after ≡ take n before ++ numbers → length after ≡ length before
    → IsReadForm bytes_of text at before n (spelled left used) after
last_read bytes_of form spells text at before n left used front pad numbers after long few uses is h units scalars room
    stand same =
    let b = begun bytes_of form spells (front ++ pad) numbers left (omega arith) (λ k l. units k (omega arith)) in
    let held : n ≡ length (take n before) = omega (arith, length-take n before) in
    record {
      characters = take left numbers;
      scalars = some_scalars left numbers (all_scalars numbers (rw long scalars));
      begins = begins_copied (flat_map bytes_of (take left numbers)) front (front ++ pad) (drop at text) b.begins
          (Begins-append front pad) (omega (arith, b.uses)) h;
      uses = uses ∙ sym b.uses;
      counts = omega (arith, length-take left numbers);
      stand = sym (take-take (n + left) (n + 16) after (omega arith)) ∙ ap (take (n + left)) stand
          ∙ ap (λ (k : ℕ). take (k + left) (take n before ++ numbers)) held
          ∙ take-append-add (take n before) numbers left;
      fits = omega arith;
      size = same;
    }

-- how many bytes k zeros have
zeros_long : (bytes_of : BytesOf) (k : ℕ) → length (flat_map bytes_of (replicate k 0)) ≡ length (bytes_of 0) * k
zeros_long bytes_of zero = grind arith
zeros_long bytes_of (suc k) = grind
    (arith, length-append (bytes_of 0) (flat_map bytes_of (replicate k 0)), zeros_long bytes_of k)

-- the bytes of the zeros do not count
pub written_last : (bytes_of : BytesOf) (characters : List ℕ) (n : ℕ) (before : List ℕ) (at k u z : ℕ)
    (sixteen after : List ℕ) → n ≤ length characters → sixteen ≡ drop n characters ++ replicate k 0
    → z ≡ length (bytes_of 0) → IsWrittenForm bytes_of sixteen 0 before at (spelled (length sixteen) u) after
    → (z * k ≤ u) × IsWrittenForm bytes_of characters n before at (spelled (length characters - n) (u - z * k)) after
written_last bytes_of characters n before at k u z sixteen after h is size p =
    let tail : List ℕ = drop n characters in
    let mine : take (length characters - n) tail ≡ tail = take_all (length characters - n) tail (omega
    (arith, length-drop n characters)) in
    let bytes : flat_map bytes_of (take (length sixteen) sixteen)
    ≡ flat_map bytes_of tail ++ flat_map bytes_of (replicate k 0) = ap (flat_map bytes_of)
    (take_all (length sixteen) sixteen (omega arith) ∙ is) ∙ flat_map-append bytes_of tail (replicate k 0) in
    let long : u ≡ length (flat_map bytes_of tail) + z * k = p.uses ∙ ap length bytes
    ∙ length-append (flat_map bytes_of tail) (flat_map bytes_of (replicate k 0))
    ∙ ap (λ (m : ℕ). length (flat_map bytes_of tail) + m) (zeros_long bytes_of k ∙ ap (λ (m : ℕ). m * k) (sym size)) in
    let ends : length (take at before ++ flat_map bytes_of tail) ≡ at + (u - z * k) = omega
    (arith, length-append (take at before) (flat_map bytes_of tail), length-take at before, long, p.fits) in (
      omega (arith, long),
      record {
        within = omega arith;
        uses = rw mine (omega (arith, long));
        fits = omega (arith, p.fits);
        stand = sym (take-take (at + (u - z * k)) (at + u) after (omega arith))
            ∙ ap (take (at + (u - z * k))) (p.stand ∙ ap (λ (x : List ℕ). take at before ++ x) bytes
            ∙ sym (append_assoc (take at before) (flat_map bytes_of tail) (flat_map bytes_of (replicate k 0))))
            ∙ take_at (take at before ++ flat_map bytes_of tail) (flat_map bytes_of (replicate k 0)) (at + (u - z * k))
            ends
            ∙ ap (λ (x : List ℕ). take at before ++ flat_map bytes_of x) (sym mine);
        size = p.size;
      },
    )

-- what is left of sixteen zeros after the first k
rest_of : (k m : ℕ) (x : ℕ) → drop k (replicate m x) ≡ replicate (m - k) x
rest_of zero m x = ap (λ (n : ℕ). replicate n x) (let e : m ≡ m - 0 = omega arith in e)
rest_of (suc k) zero x = ap (λ (n : ℕ). replicate n x) (let e : 0 ≡ 0 - suc k = omega arith in e)
rest_of (suc k) (suc m) x = rest_of k m x
    ∙ ap (λ (n : ℕ). replicate n x) (let e : m - k ≡ suc m - suc k = omega arith in e)

-- the last characters are written if sixteen were, of which the others are zeros
pub written_padded : (bytes_of : BytesOf) (characters : List ℕ) (n : ℕ) (before : List ℕ) (at : ℕ) (front : List ℕ)
    (x m u z : ℕ) (after : List ℕ) → n ≤ length characters → length characters ≤ n + 16
    → front ≡ take (length characters - n) (drop n characters) → x ≡ 0 → z ≡ length (bytes_of 0) → m ≡ 16
    → IsWrittenForm bytes_of (front ++ drop (length characters - n) (replicate 16 x)) 0 before at (spelled m u) after
    → (z * (16 - (length characters - n)) ≤ u) × IsWrittenForm bytes_of characters n before at
    (spelled (length characters - n) (u - z * (16 - (length characters - n)))) after
written_padded bytes_of characters n before at front x m u z after h few is none size all p =
    let left = length characters - n in
    let sixteen : List ℕ = front ++ drop left (replicate 16 x) in
    let mine : front ≡ drop n characters = is ∙ take_all left (drop n characters) (omega
    (arith, length-drop n characters)) in
    let padded : sixteen ≡ drop n characters ++ replicate (16 - left) 0 = ap₂ (λ (a b : List ℕ). a ++ b) mine
    (rest_of left 16 x ∙ ap (λ (y : ℕ). replicate (16 - left) y) none) in
    let long : m ≡ length sixteen = omega (
      arith,
      length-append front (drop left (replicate 16 x)),
      length-drop left (replicate 16 x),
      ap length mine,
      length-drop n characters,
    ) in
    written_last bytes_of characters n before at (16 - left) u z sixteen after h padded size
    (subst (λ (k : ℕ). IsWrittenForm bytes_of sixteen 0 before at (spelled k u) after) long p)

-- if the characters were not all written, none counts as written
pub written_none : (bytes_of : BytesOf) (characters : List ℕ) (n : ℕ) (before : List ℕ) (at : ℕ) (others : List ℕ)
    (m : ℕ) (run : Converted) (after : List ℕ) → n ≤ length characters
    → IsWrittenForm bytes_of others m before at run after
    → IsWrittenForm bytes_of characters n before at (spelled 0 0) after
written_none bytes_of characters n before at others m run after h p = record {
  within = omega arith;
  uses = refl;
  fits = omega (arith, p.fits);
  stand = ap (λ (i : ℕ). take i after) (let none : at + 0 ≡ at = omega arith in none)
      ∙ sym (take-take at (at + run.used) after (omega arith)) ∙ ap (take at) p.stand
      ∙ take_at (take at before) (flat_map bytes_of (take run.n (drop m others))) at (omega
      (arith, length-take at before, p.fits)) ∙ sym (append-nil (take at before));
  size = p.size;
}
