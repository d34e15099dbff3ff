-- Sixteen characters that are read at once.
use Rattle.std.proofs.Common.{◌≡◌, ℕ, ◌*◌, ◌<◌, ◌≤◌, List, [], ◌∷◌, length, length-take, take, map, get_or, get_or-take}
use Rattle.std.proofs.Common.{refl, sym, ◌∙◌, ap, subst, arith, suc}
use Rattle.std.specs.List.{flat_map}
use Rattle.std.proofs.lemmas.List.{take_all, map-id}
use Rattle.cv_base.specs.Scalars.{AreScalars}
use Rattle.cv_base.specs.declared.ascii_form.AsciiForm.TheVariants.{Two, Four}
use Rattle.cv_base.specs.declared.endian.Endian.{Endian}
use Rattle.cv_base.proofs.Front.{Begins-take, Begins-trans}
use Rattle.cv_block.specs.Units.{IsUnitAt, AreUnits, AreScalarsBelow}
use Rattle.cv_block.proofs.UnitRuns.{begun, all_scalars}
use Rattle.cv_utf16.specs.Utf16.{utf16}
use Rattle.cv_utf16.specs.Utf32.{utf32}
use Rattle.cv_utf16.proofs.Utf16Units.{one_unit}
use Rattle.cv_transcode.specs.Private.Windows.{AreFirst, IsWindow, AreSixteen, AreNarrow}

front_scalars : (units : List ℕ) (n : ℕ) → n ≤ length units → AreScalarsBelow units n → AreScalars (take n units)
front_scalars units n h scalars =
    let few : length (take n units) ≡ n = omega (arith, length-take n units) in
    all_scalars (take n units) (λ k l. let within : k < n = omega (arith, few, l) in rw get_or-take (scalars k within))

units_window : (e : Endian) (text units : List ℕ) → length units ≡ 16 → AreUnits (Two e) text units 16
    → AreScalarsBelow units 16 → IsWindow (utf16 e) 32 text units
units_window e text units long are scalars =
    let b = begun (utf16 e) (Two e) (λ c h. one_unit e c h) text units 16 (omega arith) are in
    let all : take 16 units ≡ units = take_all 16 units (omega arith) in
    record {
      long = long;
      few = λ k h. (are k h).few;
      scalars = all_scalars units (rw long scalars);
      begins = rw all at b.begins;
      uses = sym (rw all at b.uses);
    }

units_front : (e : Endian) (text units : List ℕ) (n : ℕ) → length units ≡ 16 → AreUnits (Two e) text units 16 → n ≤ 16
    → AreScalarsBelow units n → AreFirst (utf16 e) (n * 2) text (take n units)
units_front e text units n long are h scalars =
    let b = begun (utf16 e) (Two e) (λ c h. one_unit e c h) text units n (omega arith) (λ k l. are k (omega arith)) in
    record { scalars = front_scalars units n (omega arith) scalars; begins = b.begins; uses = omega (arith, b.uses) }

-- units at the start of a text are a window
pub units_read : (e : Endian) (text units : List ℕ) → length units ≡ 16 → AreUnits (Two e) text units 16
    → AreSixteen (utf16 e) 32 text units
units_read e text units long are = record {
  few = λ k h. (are k h).few;
  window = units_window e text units long are;
  front = λ n h scalars. units_front e text units n long are h scalars;
}

narrow_window : (e : Endian) (text numbers units : List ℕ) → length units ≡ 16 → AreUnits (Four e) text numbers 16
    → AreNarrow numbers units 16 → AreScalarsBelow units 16 → IsWindow (utf32 e) 64 text units
narrow_window e text numbers units long are narrow scalars =
    let here : AreUnits (Four e) text units 16 = λ k h. subst (λ (c : ℕ). IsUnitAt (Four e) text (4 * k) c)
    ((narrow k h).same (scalars k h)) (are k h) in
    let b = begun (utf32 e) (Four e) (λ c h. refl) text units 16 (omega arith) here in
    let all : take 16 units ≡ units = take_all 16 units (omega arith) in
    record {
      long = long;
      few = λ k h. (narrow k h).few;
      scalars = all_scalars units (rw long scalars);
      begins = rw all at b.begins;
      uses = sym (rw all at b.uses);
    }

narrow_front : (e : Endian) (text numbers units : List ℕ) (n : ℕ) → length units ≡ 16
    → AreUnits (Four e) text numbers 16 → AreNarrow numbers units 16 → n ≤ 16 → AreScalarsBelow units n
    → AreFirst (utf32 e) (n * 4) text (take n units)
narrow_front e text numbers units n long are narrow h scalars =
    let here : AreUnits (Four e) text units n = λ k l. subst (λ (c : ℕ). IsUnitAt (Four e) text (4 * k) c)
    ((narrow k (omega arith)).same (scalars k l)) (are k (omega arith)) in
    let b = begun (utf32 e) (Four e) (λ c h. refl) text units n (omega arith) here in
    record { scalars = front_scalars units n (omega arith) scalars; begins = b.begins; uses = omega (arith, b.uses) }

-- units of four bytes at the start of a text, narrowed, are a window
pub narrow_read : (e : Endian) (text numbers units : List ℕ) → length units ≡ 16 → AreUnits (Four e) text numbers 16
    → AreNarrow numbers units 16 → AreSixteen (utf32 e) 64 text units
narrow_read e text numbers units long are narrow = record {
  few = λ k h. (narrow k h).few;
  window =
      narrow_window e text numbers units long are narrow;
  front =
      λ n h scalars. narrow_front e text numbers units n long are narrow h scalars;
}

abbrev one : ℕ → List ℕ
one c = c ∷ []

ones_are : (bytes : List ℕ) → flat_map one bytes ≡ bytes
ones_are [] = refl
ones_are (b ∷ bytes) = ap (λ (l : List ℕ). b ∷ l) (ones_are bytes)

below_scalars : (bytes : List ℕ) → ((k : ℕ) → k < length bytes → get_or bytes k 0 < 256) → AreScalars bytes
below_scalars [] p = tt
below_scalars (b ∷ bytes) p =
    let small : b < 256 = p 0 (omega arith) in (
      (omega (arith, small), λ h. absurd (omega (arith, small, h))),
      below_scalars bytes (λ k h. p (suc k) (omega arith)),
    )

bytes_are : (text bytes : List ℕ) → bytes ≡ take 16 text → 16 ≤ length text → ((k : ℕ) → get_or text k 0 < 256)
    → IsWindow one 16 text bytes
bytes_are text bytes is room p =
    let long : length bytes ≡ 16 = ap length is ∙ (let l : length (take 16 text) ≡ 16 =
    omega (arith, length-take 16 text) in l) in
    let small : (k : ℕ) → k < 16 → get_or bytes k 0 < 256 = λ k h. rw (is, get_or-take) (p k) in
    record {
      long = long;
      few = λ k h. omega (arith, small k h);
      scalars = below_scalars bytes (λ k h. small k (omega (arith, long, h)));
      begins = rw (ones_are bytes, is) (Begins-take 16 text);
      uses = sym (ap length (ones_are bytes) ∙ long);
    }

bytes_front : (text bytes : List ℕ) (n : ℕ) → bytes ≡ take 16 text → 16 ≤ length text
    → ((k : ℕ) → get_or text k 0 < 256) → n ≤ 16 → AreFirst one (n * 1) text (take n bytes)
bytes_front text bytes n is room p h =
    let long : length bytes ≡ 16 = ap length is ∙ (let l : length (take 16 text) ≡ 16 =
    omega (arith, length-take 16 text) in l) in
    let few : length (take n bytes) ≡ n = omega (arith, length-take n bytes, long) in
    let small : (k : ℕ) → k < n → get_or bytes k 0 < 256 = λ k l. let within : k < 16 = omega arith in
    rw (is, get_or-take) (p k) in
    record {
      scalars = below_scalars (take n bytes) (λ k l. let within : k < n = omega (arith, few, l) in
          rw get_or-take (small k within));
      begins = rw (ones_are (take n bytes), is) (Begins-trans (take n (take 16 text)) (take 16 text) text
          (Begins-take n (take 16 text)) (Begins-take 16 text));
      uses = omega (arith, ap length (ones_are (take n bytes)), few);
    }

-- bytes at the start of a text are a window
pub bytes_window : (text : List ℕ) → 16 ≤ length text → ((k : ℕ) → get_or text k 0 < 256)
    → AreSixteen one 16 text (map (λ (b : ℕ). b) (take 16 text))
bytes_window text room p =
    let w = bytes_are text _ (map-id (take 16 text)) room p in
    record {
      few = w.few;
      window = λ scalars. w;
      front = λ n h scalars.
          bytes_front text _ n (map-id (take 16 text)) room p h;
    }
