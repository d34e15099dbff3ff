-- Characters of UTF-8 that all have three bytes, or all four, one after the other.
use Rattle.std.proofs.Common.{◌^◌, w64, map, ◌≡◌, ℕ, ◌+◌, ◌-◌, ◌*◌, ◌<◌, ◌≤◌, inl, inr, List, [], ◌∷◌, ◌++◌, length}
use Rattle.std.proofs.Common.{take, drop, get_or, sym, ◌∙◌, ap, arith, zero, suc, length-append}
use Rattle.std.proofs.Math.Dec.{ltb}
use Rattle.std.proofs.Math.Nat.{mul-suc, mul-zero}
use Rattle.std.proofs.Math.Seq.{take-suc}
use Rattle.std.specs.Int.{trailing_zeros}
use Rattle.std.specs.Simd.Lanes.{mask_l}
use Rattle.std.proofs.lemmas.Bool.{ltb-false}
use Rattle.std.proofs.lemmas.List.{append_assoc, length-take-le, take-append-drop, take-take, take_at, take_rest}
use Rattle.std.specs.List.{flat_map}
use Rattle.cv_base.proofs.Front.{Begins-join, Begins-trans, Begins-take}
use Rattle.cv_base.specs.Items.{Begins}
use Rattle.cv_base.specs.Scalars.{IsScalar, AreScalars}
use Rattle.cv_base.specs.Units.{unit_of}
use Rattle.cv_base.specs.declared.ascii_form.AsciiForm.TheVariants.{Four}
use Rattle.cv_base.specs.declared.endian.Endian.TheVariants.{Little}
use Rattle.cv_block.specs.StatelessForms.{IsReadForm}
use Rattle.cv_block.specs.Units.{IsUnitAt}
use Rattle.cv_block.proofs.UnitRuns.{flat_map-more}
use Rattle.cv_block.proofs.FormRuns.{AreScalars-append}
use Rattle.cv_block.proofs.Lanes.{fails_before}
use Rattle.cv_utf8.specs.Utf8.{utf8_bytes}
use Rattle.cv_utf8.specs.Private.Utf8Long.{AreWordsOf, IsNumberOf, AreNumbersOf}

-- 0 and the number of a character are scalar values
pub number_scalar : (size word number : ℕ) → IsNumberOf size word number → IsScalar number
number_scalar size word number h = elim h [ inl e ↦ rw e (omega arith, λ p. omega arith) | inr p ↦ p.0 ]

-- A character of `size` bytes is at an offset.
pub record IsLongAt (size : ℕ) (text : List ℕ) (at number : ℕ) : Type 0 where
  pub scalar : IsScalar number
  pub begins : Begins (utf8_bytes number) (drop at text)
  pub long : length (utf8_bytes number) ≡ size

long_at : (size : ℕ) (text : List ℕ) (at word number : ℕ) → size ≤ 4 → IsUnitAt (Four Little) text at word
    → IsNumberOf size word number → 0 < number → IsLongAt size text at number
long_at size text at word number small unit is some = elim is [
  | inl e ↦ absurd (omega arith)
  | inr p ↦ (let bytes : List ℕ = unit_of (Four Little) word in
      let front = Begins-trans (take size bytes) bytes (drop at text) (Begins-take size bytes) unit.stands in
      record { scalar = p.0; begins = rw p.1 front; long = ap length p.1 ∙ length-take-le size bytes small })
]

-- A text begins with the bytes of the first n characters, and each has `size` bytes.
pub record Starting (size : ℕ) (text numbers : List ℕ) (n : ℕ) : Type 0 where
  pub begins : Begins (flat_map utf8_bytes (take n numbers)) text
  pub uses : length (flat_map utf8_bytes (take n numbers)) ≡ size * n
  pub scalars : AreScalars (take n numbers)

-- if each character is at its offset, a text begins with all of them
pub starts_mask : (size : ℕ) (text numbers : List ℕ) (n : ℕ) → n ≤ length numbers
    → ((k : ℕ) → k < n → IsLongAt size text (size * k) (get_or numbers k 0)) → Starting size text numbers n
starts_mask size text numbers zero h at = record { begins = tt; uses = sym (mul-zero size); scalars = tt }
starts_mask size text numbers (suc n) h at =
    let before = starts_mask size text numbers n (omega arith) (λ k l. at k (omega arith)) in
    let c = get_or numbers n 0 in
    let here = at n (omega arith) in
    let inside : n < length numbers = omega arith in
    let e = take-suc numbers n 0 inside in
    let f : flat_map utf8_bytes (take (suc n) numbers) ≡ flat_map utf8_bytes (take n numbers) ++ utf8_bytes c =
    ap (flat_map utf8_bytes) e ∙ flat_map-more utf8_bytes (take n numbers) c in
    record {
      begins = rw f (Begins-join _ (utf8_bytes c) text before.begins (rw before.uses here.begins));
      uses = rw f (omega (
        arith,
        length-append (flat_map utf8_bytes (take n numbers)) (utf8_bytes c),
        before.uses,
        here.long,
        mul-suc size n,
      ));
      scalars = rw e (AreScalars-append (take n numbers) (c ∷ []) before.scalars (here.scalar, tt));
    }

-- characters of size bytes each are read
pub long_read : (size : ℕ) → size ≤ 4 → (text : List ℕ) (at : ℕ) (before : List ℕ) (n more : ℕ)
    (words numbers after : List ℕ) → length numbers ≡ 16 → AreWordsOf size (take (length text - at) (drop at text))
    words 16 → AreNumbersOf size words numbers 16 → more ≤ 16 → ((k : ℕ) → k < more → 0 < get_or numbers k 0)
    → n + 16 ≤ length before → take (n + 16) after ≡ take n before ++ numbers → length after ≡ length before
    → IsReadForm utf8_bytes text at before n (record { n = more; used = size * more }) after
long_read size small text at before n more words numbers after long units threes few some room stand same =
    let b = starts_mask size (drop at text) numbers more
    (omega arith) (λ k l. long_at size (drop at text) (size * k) (get_or words k 0) (get_or numbers k 0) small
    (rw take_rest at units k (omega arith)) (threes k (omega arith)) (some k l)) in
    let front = take more numbers in
    let long_front : length front ≡ more = length-take-le more numbers (omega arith) in
    let place : length (take n before ++ front) ≡ n + more =
    omega (arith, length-append (take n before) front, length-take-le n before (omega arith), long_front) in
    let split : take (n + 16) after ≡ (take n before ++ front) ++ drop more numbers =
    stand ∙ ap (λ (x : List ℕ). take n before ++ x) (sym (take-append-drop more numbers))
    ∙ sym (append_assoc (take n before) front (drop more numbers)) in
    record {
      characters = front;
      scalars = b.scalars;
      begins = b.begins;
      uses = sym b.uses;
      counts = sym long_front;
      stand = sym (take-take (n + more) (n + 16) after (omega arith)) ∙ ap (take (n + more)) split
          ∙ take_at (take n before ++ front) (drop more numbers) (n + more) place;
      fits = omega arith;
      size = same;
    }

-- the numbers before the first that is 0 are above 0
pub before_zero : (numbers : List ℕ) (m k : ℕ) → m < 2 ^ 64 → m ≡ mask_l (map (λ a. ltb a 1) numbers)
    → k < length numbers → k < trailing_zeros w64 m → 0 < get_or numbers k 0
before_zero numbers m k small is within l =
    let above : 1 ≤ get_or numbers k 0 = ltb-false _ _ (fails_before (λ a. ltb a 1) numbers m k small is within l) in
    omega arith
