-- Characters of one unit each, one after the other, as they are read and written.
use Rattle.std.proofs.Common.{◌≡◌, ℕ, ◌+◌, ◌-◌, ◌*◌, ◌<◌, ◌≤◌, List, [], ◌∷◌, ◌++◌, length, take, drop, get_or, refl}
use Rattle.std.proofs.Common.{sym, ◌∙◌, ap, arith, zero, suc, length-append, length-take, length-drop, append_assoc}
use Rattle.std.proofs.Common.{append-nil}
use Rattle.std.proofs.Math.Nat.{mul-suc, mul-zero}
use Rattle.std.proofs.Math.Seq.{take-suc}
use Rattle.std.proofs.lemmas.List.{take_all, take_at, take_more, take_rest}
use Rattle.std.proofs.lemmas.List.Concat.{flat_map-append}
use Rattle.std.specs.List.{flat_map}
use Rattle.cv_base.proofs.Front.{Begins-join}
use Rattle.cv_base.specs.Items.{Begins}
use Rattle.cv_base.specs.Scalars.{AreScalars}
use Rattle.cv_base.specs.Units.{unit_of, unit_size}
use Rattle.cv_base.specs.declared.ascii_form.AsciiForm.{AsciiForm}
use Rattle.cv_block.specs.StatelessForms.{BytesOf, IsReadForm, IsWrittenForm}
use Rattle.cv_block.specs.Units.{AreUnits, AreScalarsBelow, AreSingle, HasUnits}
use Rattle.cv_block.proofs.UnitBytes.{length-unit_of}

-- the bytes of characters and of one more
pub flat_map-more : (bytes_of : BytesOf) (characters : List ℕ) (c : ℕ)
    → flat_map bytes_of (characters ++ c ∷ []) ≡ flat_map bytes_of characters ++ bytes_of c
flat_map-more bytes_of characters c = flat_map-append bytes_of characters (c ∷ [])
    ∙ ap (λ (x : List ℕ). flat_map bytes_of characters ++ x) (append-nil (bytes_of c))

-- The bytes of the first n numbers begin a text, and each is one unit.
pub record Begun (bytes_of : BytesOf) (form : AsciiForm) (text numbers : List ℕ) (n : ℕ) : Type 0 where
  pub begins : Begins (flat_map bytes_of (take n numbers)) text
  pub uses : length (flat_map bytes_of (take n numbers)) ≡ unit_size form * n

-- units at the start of a text are the bytes of their characters
pub begun : (bytes_of : BytesOf) (form : AsciiForm) → HasUnits form bytes_of → (text numbers : List ℕ) (n : ℕ)
    → n ≤ length numbers → AreUnits form text numbers n → Begun bytes_of form text numbers n
begun bytes_of form spells text numbers zero h units = record { begins = tt; uses = sym (mul-zero (unit_size form)) }
begun bytes_of form spells text numbers (suc n) h units =
    let before = begun bytes_of form spells text numbers n (omega arith) (λ k l. units k (omega arith)) in
    let c = get_or numbers n 0 in
    let unit = units n (omega arith) in
    let same : bytes_of c ≡ unit_of form c = spells c unit.few in
    let single : length (bytes_of c) ≡ unit_size form = ap length same ∙ length-unit_of form c in
    let stands : Begins (bytes_of c) (drop (unit_size form * n) text) = rw same unit.stands in
    let inside : n < length numbers = omega arith in
    let e : flat_map bytes_of (take (suc n) numbers) ≡ flat_map bytes_of (take n numbers) ++ bytes_of c =
    ap (flat_map bytes_of) (take-suc numbers n 0 inside) ∙ flat_map-more bytes_of (take n numbers) c in
    record {
      begins = rw e (Begins-join _ (bytes_of c) text before.begins (rw before.uses stands));
      uses = rw e (omega (
        arith,
        length-append (flat_map bytes_of (take n numbers)) (bytes_of c),
        before.uses,
        single,
        mul-suc (unit_size form) n,
      ));
    }

-- numbers that are each that of a character
pub all_scalars : (numbers : List ℕ) → AreScalarsBelow numbers (length numbers) → AreScalars numbers
all_scalars [] h = tt
all_scalars (c ∷ numbers) h = (h 0 (omega arith), all_scalars numbers (λ k l. h (suc k) (omega arith)))

-- many units are read
pub all_read : (bytes_of : BytesOf) (form : AsciiForm) → HasUnits form bytes_of
    → (text : List ℕ) (at : ℕ) (before : List ℕ) (n used : ℕ) (numbers after : List ℕ) → length numbers ≡ 16 → AreUnits
    form (take (length text - at) (drop at text)) numbers 16 → AreScalarsBelow numbers 16 → n + 16 ≤ length before
    → used ≡ unit_size form * 16 → take (n + 16) after ≡ take n before ++ numbers → length after ≡ length before
    → IsReadForm bytes_of text at before n (record { n = 16; used = used }) after
all_read bytes_of form spells text at before n used numbers after long units scalars room uses stand same =
    let b = begun bytes_of form spells _ numbers 16 (omega arith) units in
    let all : take 16 numbers ≡ numbers = take_all 16 numbers (omega arith) in
    record {
      characters = numbers;
      scalars = all_scalars numbers (rw long scalars);
      begins = rw (all, take_rest) at b.begins;
      uses = uses ∙ sym (rw all at b.uses);
      counts = sym long;
      stand = stand;
      fits = room;
      size = same;
    }

-- one unit more is written
pub more_stand : (bytes_of : BytesOf) (values before : List ℕ) (at size k place place_more c : ℕ) (now after : List ℕ)
    → take place now ≡ take at before ++ flat_map bytes_of (take k values) → c ≡ get_or values k 0 → k < length values
    → length (bytes_of c) ≡ size
    → place_more ≡ place + size → place_more ≤ length now → after ≡ take place now ++ bytes_of c
    ++ drop (place + size) now → take place_more after ≡ take at before ++ flat_map bytes_of (take (k + 1) values)
more_stand bytes_of values before at size k place place_more c now after p is h single e room wrote =
    let more : flat_map bytes_of (take (k + 1) values) ≡ flat_map bytes_of (take k values) ++ bytes_of c =
    ap (flat_map bytes_of) (rw is (take_more values k 0 h)) ∙ flat_map-more bytes_of (take k values) c in
    let front : length (take place now ++ bytes_of c) ≡ place_more =
    omega (arith, length-append (take place now) (bytes_of c), length-take place now) in
    let stand : take place_more after ≡ take place now ++ bytes_of c =
    rw wrote (take_at (take place now ++ bytes_of c) (drop (place + size) now) place_more front) in
    stand ∙ ap (λ (x : List ℕ). x ++ bytes_of c) p ∙ append_assoc (take at before) (flat_map bytes_of (take k values))
    (bytes_of c) ∙ ap (λ (x : List ℕ). take at before ++ x) (sym more)

length-units : (form : AsciiForm) (values : List ℕ)
    → length (flat_map (unit_of form) values) ≡ unit_size form * length values
length-units form [] = sym (mul-zero (unit_size form))
length-units form (c ∷ values) = omega (
  arith,
  length-append (unit_of form c) (flat_map (unit_of form) values),
  length-unit_of form c,
  length-units form values,
  mul-suc (unit_size form) (length values),
)

same_bytes : (bytes_of : BytesOf) (form : AsciiForm) → HasUnits form bytes_of → (values : List ℕ)
    → AreSingle form values (length values) → flat_map (unit_of form) values ≡ flat_map bytes_of values
same_bytes bytes_of form spells [] single = refl
same_bytes bytes_of form spells (c ∷ values) single =
    let rest = same_bytes bytes_of form spells values (λ k l. single (suc k) (omega arith)) in
    let first : bytes_of c ≡ unit_of form c = spells c (single 0 (omega arith)) in
    rw (first, rest) refl

-- many units are written
pub all_written : (bytes_of : BytesOf) (form : AsciiForm) → HasUnits form bytes_of → (characters : List ℕ)
    (n : ℕ) (before : List ℕ) (at used : ℕ) (values after : List ℕ) → n + 16 ≤ length characters → values
    ≡ take 16 (drop n characters) → AreSingle form values 16 → used ≡ unit_size form * 16 → at + used ≤ length before
    → take (at + unit_size form * 16) after ≡ take at before ++ flat_map (unit_of form) values → length after
    ≡ length before → IsWrittenForm bytes_of characters n before at (record { n = 16; used = used }) after
all_written bytes_of form spells characters n before at used values after within is single uses fits stand size =
    let long : length values ≡ 16 = ap length is ∙ simp (length-take, length-drop) (omega arith) in
    let same : flat_map (unit_of form) values ≡ flat_map bytes_of values =
    same_bytes bytes_of form spells values (rw long single) in
    let e : length (flat_map bytes_of values) ≡ unit_size form * 16 = ap length (sym same) ∙ length-units form values
    ∙ ap (λ m. unit_size form * m) long in
    record {
      within = within;
      uses = uses ∙ sym e ∙ ap (λ x. length (flat_map bytes_of x)) is;
      fits = fits;
      stand = ap (λ m. take (at + m) after) uses ∙ stand ∙ ap (λ x. take at before ++ x) same
          ∙ ap (λ x. take at before ++ flat_map bytes_of x) is;
      size = size;
    }
