-- Units of UTF-16, each high surrogate joined with the low one after it.
use Rattle.std.proofs.Common.{◌≡◌, ℕ, ◌+◌, ◌-◌, ◌*◌, ◌/◌, ◌<◌, ◌≤◌, Bool, true, false, cond, inl, inr, List, [], ◌∷◌}
use Rattle.std.proofs.Common.{◌++◌, length, take, drop, get_or, slice_set, refl, sym, ◌∙◌, ap, subst, arith, zero, suc}
use Rattle.std.proofs.Common.{length-append, append-nil, append_assoc, eq-eqb, not}
use Rattle.std.specs.Prelude.{IsTrue, ◌↔◌}
use Rattle.std.specs.List.{flat_map}
use Rattle.std.proofs.lemmas.Bool.{cases_eq, ne_eqb}
use Rattle.std.proofs.lemmas.List.{take_all, take_more, take_more_set, take-set, take_rest}
use mir.Val.{bool_byte}
use Rattle.cv_base.specs.Scalars.{AreScalars}
use Rattle.cv_base.specs.Items.{Begins}
use Rattle.cv_base.specs.declared.ascii_form.AsciiForm.TheVariants.{Two}
use Rattle.cv_base.specs.declared.endian.Endian.{Endian}
use Rattle.cv_base.proofs.Front.{Begins-join}
use Rattle.cv_block.specs.StatelessForms.{IsFormAt, IsReadForm}
use Rattle.cv_block.specs.Surrogates.{IsHighUnit, IsLowUnit, IsPair}
use Rattle.cv_block.specs.Units.{IsUnitAt}
use Rattle.cv_block.proofs.UnitBytes.{one_number}
use Rattle.cv_block.proofs.UnitRuns.{flat_map-more}
use Rattle.cv_block.proofs.FormRuns.{AreScalars-append}
use Rattle.cv_utf16.specs.Private.SurrogatePairs.{IsPaired, ArePaired, unless_low, without_low}
use Rattle.cv_utf16.specs.Utf16.{utf16}
use Rattle.cv_utf16.proofs.Utf16Units.{one_spelled, pair_spelled}

-- a low surrogate more adds no number
low_more : (numbers : List ℕ) (k : ℕ) → k < length numbers → IsLowUnit (get_or numbers k 0)
    → without_low (take (k + 1) numbers) ≡ without_low (take k numbers)
low_more numbers k h e =
    let c = get_or numbers k 0 in
    let none : unless_low c ≡ [] = ap (λ b. cond b [] (c ∷ [])) (eq-eqb (c / 0x400) 0x37 e) in
    ap without_low (take_more numbers k 0 h) ∙ flat_map-more unless_low (take k numbers) c
    ∙ ap (λ (x : List ℕ). without_low (take k numbers) ++ x) none ∙ append-nil (without_low (take k numbers))

other_more : (numbers : List ℕ) (k : ℕ) → k < length numbers → (IsLowUnit (get_or numbers k 0) → ⊥)
    → without_low (take (k + 1) numbers) ≡ without_low (take k numbers) ++ get_or numbers k 0 ∷ []
other_more numbers k h never =
    let c = get_or numbers k 0 in
    let itself : unless_low c ≡ c ∷ [] = ap (λ b. cond b [] (c ∷ [])) (ne_eqb (c / 0x400) 0x37 never) in
    ap without_low (take_more numbers k 0 h) ∙ flat_map-more unless_low (take k numbers) c
    ∙ ap (λ (x : List ℕ). without_low (take k numbers) ++ x) itself

-- What was put into a buffer for the first k numbers.
pub record IsPut (numbers before : List ℕ) (n k more : ℕ) (after : List ℕ) : Type 0 where
  pub few : more ≤ k
  pub counts : more ≡ length (without_low (take k numbers))
  pub stand : take (n + more) after ≡ take n before ++ without_low (take k numbers)

-- one number more is put, or passed over
pub put_more : (numbers before now : List ℕ) (n k more : ℕ) (is_low : Bool) (c : ℕ) → k < length numbers
    → (IsTrue is_low ↔ (IsLowUnit (get_or numbers k 0))) → (is_low ≡ false → c ≡ get_or numbers k 0) → more ≤ k → more
    ≡ length (without_low (take k numbers)) → take (n + more) now ≡ take n before ++ without_low (take k numbers) → n
    + more < length now → IsPut numbers before n (k + 1) (more + bool_byte (not is_low)) (slice_set now (n + more) c)
put_more numbers before now n k more true c h low is few counts stand room =
    let e = low_more numbers k h (low.0 refl) in
    record {
      few = omega arith;
      counts = rw e (omega (arith, counts));
      stand = rw e (ap (λ x. take x (slice_set now (n + more) c)) (let g : n + (more + 0) ≡ n + more = omega arith in g)
          ∙ take-set now (n + more) c ∙ stand);
    }
put_more numbers before now n k more false c h low is few counts stand room =
    let never : IsLowUnit (get_or numbers k 0) → ⊥ = λ a. (let f : false ≡ true = low.1 a in cc f) in
    let e = other_more numbers k h never in
    record {
      few = omega arith;
      counts = rw e (omega (arith, counts, length-append (without_low (take k numbers)) (get_or numbers k 0 ∷ [])));
      stand = rw (e, ← is refl) (ap (λ x. take x (slice_set now (n + more) c))
          (let g : n + (more + 1) ≡ n + more + 1 = omega arith in g) ∙ take_more_set now (n + more) c room ∙ ap
          (λ (x : List ℕ). x ++ c ∷ []) stand ∙ append_assoc (take n before) (without_low (take k numbers)) (c ∷ []));
    }

-- Characters whose bytes are at the start of a text, up to an index.
pub record IsFront (e : Endian) (text characters : List ℕ) (at : ℕ) : Type 0 where
  pub scalars : AreScalars characters
  pub begins : Begins (flat_map (utf16 e) characters) text
  pub uses : length (flat_map (utf16 e) characters) ≡ at

-- one character more is at the start
front_more : (e : Endian) (text characters : List ℕ) (at size c : ℕ) → IsFront e text characters at → IsFormAt
    (utf16 e) text at c size → IsFront e text (characters ++ c ∷ []) (at + size)
front_more e text characters at size c front p =
    let more = flat_map-more (utf16 e) characters c in
    record {
      scalars = AreScalars-append characters (c ∷ []) front.scalars (p.0, tt);
      begins = subst (λ (w : List ℕ). Begins w text) (sym more) (Begins-join (flat_map (utf16 e) characters)
          (utf16 e c) text front.begins (subst (λ (n : ℕ). Begins (utf16 e c) (drop n text)) (sym front.uses) p.1));
      uses = ap length more ∙ omega (arith, length-append (flat_map (utf16 e) characters) (utf16 e c), front.uses, p.2);
    }

-- What was read before a unit: all that is before it, and it too if it is a low surrogate.
record Before (e : Endian) (text numbers : List ℕ) (m u : ℕ) : Type 0 where
  low : IsLowUnit u → IsFront e text (without_low (take m numbers)) (2 * m + 2)
  other : (IsLowUnit u → ⊥) → IsFront e text (without_low (take m numbers)) (2 * m)

-- what was read before the unit after a high surrogate
after_high : (e : Endian) (text numbers : List ℕ) (m u : ℕ) → m < length numbers
    → (j : IsPaired e text (2 * m) (get_or numbers m 0)) → j.next ≡ u → Before e text numbers m j.unit
    → IsHighUnit j.unit → Before e text numbers (m + 1) u
after_high e text numbers m u h j is before high =
    let c = get_or numbers m 0 in
    let pair : IsPair j.unit j.next c = j.pair high in
    let low = j.in_pairs.0 high in
    let stands = pair_spelled e text (2 * m) j.unit j.next c j.here j.behind high pair in
    let never : IsLowUnit c → ⊥ = λ f. omega (arith, pair.above, f) in
    let front = front_more e text _ (2 * m) 4 c (before.other (λ f. omega (arith, f, high))) stands in
    record {
      low = λ f. rw (other_more numbers m h never) (subst (IsFront e text (without_low (take m numbers) ++ c ∷ []))
          (let g : 2 * m + 4 ≡ 2 * (m + 1) + 2 = omega arith in g) front);
      other = λ f. absurd (f (subst IsLowUnit is low));
    }

-- what was read before the unit after another unit
after_other : (e : Endian) (text numbers : List ℕ) (m u : ℕ) → m < length numbers
    → (j : IsPaired e text (2 * m) (get_or numbers m 0)) → j.next ≡ u → Before e text numbers m j.unit
    → (IsHighUnit j.unit → ⊥) → Before e text numbers (m + 1) u
after_other e text numbers m u h j is before never =
    let c = get_or numbers m 0 in
    let same : c ≡ j.unit = j.alone never in
    let last : IsLowUnit u → ⊥ = λ f. never (j.in_pairs.1 (subst IsLowUnit (sym is) f)) in
    let place : 2 * m + 2 ≡ 2 * (m + 1) = omega arith in
    record {
      low = λ f. absurd (last f);
      other = λ f. elim (cases_eq (j.unit / 0x400) 0x37) [
        | inl low ↦ rw (low_more numbers m h (ap (λ x. x / 0x400) same ∙ low))
            (subst (IsFront e text (without_low (take m numbers))) place (before.low low))
        | inr other ↦ (
            let spelled = subst (λ (x : ℕ). IsFormAt (utf16 e) text (2 * m) x 2) (sym same)
            (one_spelled e text (2 * m) j.unit j.here never other) in
            rw (other_more numbers m h (λ g. other (ap (λ x. x / 0x400) (sym same) ∙ g)))
            (subst (IsFront e text (without_low (take m numbers) ++ c ∷ [])) place
            (front_more e text _ (2 * m) 2 c (before.other other) spelled)))
      ];
    }

-- what was read before each unit
all_before : (e : Endian) (text numbers : List ℕ) (m u first : ℕ) → m ≤ length numbers
    → ArePaired e text numbers (length numbers) → IsUnitAt (Two e) text 0 first → (IsLowUnit first → ⊥)
    → IsUnitAt (Two e) text (2 * m) u → Before e text numbers m u
all_before e text numbers zero u first h paired here never unit =
    let same : u ≡ first = one_number (Two e) text u first unit.stands here.stands in
    record {
      low = λ f. absurd (never (ap (λ x. x / 0x400) (sym same) ∙ f));
      other = λ f. record { scalars = tt; begins = tt; uses = refl };
    }
all_before e text numbers (suc m) u first h paired here never unit =
    let inside : m < length numbers = omega arith in
    let j = paired m inside in
    let there = subst (λ x. IsUnitAt (Two e) text x u) (let g : 2 * suc m ≡ 2 * m + 2 = omega arith in g) unit in
    let is : j.next ≡ u = one_number (Two e) (drop (2 * m + 2) text) j.next u j.behind.stands there.stands in
    let before = all_before e text numbers m j.unit first (omega arith) paired here never j.here in
    let next : m + 1 ≡ suc m = omega arith in
    subst (λ x. Before e text numbers x u) next (elim (cases_eq (j.unit / 0x400) 0x36) [
      | inl high ↦ after_high e text numbers m u inside j is before high
      | inr other ↦ after_other e text numbers m u inside j is before other
    ])

-- how many bytes were read after the last of many units
end : {e : Endian} {text numbers : List ℕ} {u : ℕ} (is_low : Bool) → (IsTrue is_low ↔ (IsLowUnit u))
    → Before e text numbers 16 u → IsFront e text (without_low (take 16 numbers)) (32 + 2 * bool_byte is_low)
end true low b = b.low (low.0 refl)
end false low b = b.other (λ f. (let g : false ≡ true = low.1 f in cc g))

-- many units are read
pub paired_read : (e : Endian) (text : List ℕ) (at : ℕ) (before : List ℕ) (n more : ℕ) (numbers after : List ℕ)
    (first last : ℕ) (is_low : Bool) → length numbers ≡ 16 → ArePaired e (take (length text - at) (drop at text))
    numbers 16 → IsUnitAt (Two e) (take (length text - at) (drop at text)) 0 first
    → (IsLowUnit first → ⊥) → IsUnitAt (Two e) (take (length text - at) (drop at text)) 32 last
    → (IsTrue is_low ↔ (IsLowUnit last)) → n + 16 ≤ length before → more ≤ 16 → more ≡ length (without_low numbers)
    → take (n + more) after ≡ take n before ++ without_low numbers → length after ≡ length before
    → IsReadForm (utf16 e) text at before n (record { n = more; used = 32 + 2 * bool_byte is_low }) after
paired_read e text at before n more numbers after first last is_low long paired here never unit low room few counts
    stand same =
    let b = all_before e _ numbers 16 last first (omega arith) (rw long paired) here never unit in
    let all : take 16 numbers ≡ numbers = take_all 16 numbers (omega arith) in
    let front : IsFront e (take (length text - at) (drop at text)) (without_low numbers) (32 + 2 * bool_byte is_low) =
    rw all at (end is_low low b) in
    record {
      characters = without_low numbers;
      scalars = front.scalars;
      begins = rw take_rest at front.begins;
      uses = sym front.uses;
      counts = counts;
      stand = stand;
      fits = omega arith;
      size = same;
    }
