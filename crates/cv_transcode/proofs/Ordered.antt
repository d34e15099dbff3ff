-- Units in a byte order, as vectors compute their bytes.
use Rattle.std.proofs.Common.{◌≡◌, ℕ, ◌+◌, ◌*◌, ◌/◌, ◌%◌, ◌^◌, ◌<◌, List, [], ◌∷◌, ◌++◌, length, take, get_or, map}
use Rattle.std.proofs.Common.{refl, sym, ◌∙◌, ap, ap₂, arith, zero, suc, Fits, w16}
use Rattle.std.proofs.Math.Seq.{take-append-add}
use Rattle.std.specs.Prelude.{replicate}
use Rattle.std.specs.List.{flat_map}
use Rattle.std.specs.Simd.Lanes.{number_l, digits_l, zip2}
use lib.Lanes.{Each1}
use Rattle.cv_base.specs.Units.{unit_of}
use Rattle.cv_base.specs.declared.ascii_form.AsciiForm.TheVariants.{Two}
use Rattle.cv_base.specs.declared.endian.Endian.{Endian}
use Rattle.cv_base.specs.declared.endian.Endian.TheVariants.{Big, Little}
use Rattle.cv_block.proofs.Lanes.{twice, lane_bytes, below_rest, AllBelow}
use Rattle.cv_utf16.specs.Utf16.{utf16}
use Rattle.cv_utf16.proofs.Utf16Units.{one_unit, size_one}
use Rattle.cv_transcode.specs.Private.Windows.{in_order}

abbrev swapped : ℕ → ℕ
swapped v = (v / 0x100 + (v * 0x100) % 2 ^ 16) % 2 ^ 16

abbrev all_swapped : ℕ → List ℕ → List ℕ
all_swapped n vs = zip2 (λ a b. (a + b) % 2 ^ 16) (zip2 (λ a b. a / b) vs (replicate n 0x100))
    (zip2 (λ a b. (a * b) % 2 ^ 16) vs (replicate n 0x100))

swapped_is : (v : ℕ) → v < 0x10000 → swapped v ≡ in_order Big v
swapped_is v h = omega (arith, h)

-- in big-endian order the units have their bytes swapped
pub big_are : (n : ℕ) (vs : List ℕ) → length vs ≡ n → AllBelow 0x10000 vs → all_swapped n vs ≡ map (in_order Big) vs
big_are zero [] e p = refl
big_are zero (v ∷ vs) e p = absurd (omega arith)
big_are (suc n) [] e p = absurd (omega arith)
big_are (suc n) (v ∷ vs) e p = ap₂ (λ (x : ℕ) (l : List ℕ). x ∷ l) (swapped_is v (p 0 (omega arith)))
    (big_are n vs (omega arith) (below_rest 0x10000 v vs p))

-- in little-endian order units stay as they are
pub little_are : (vs : List ℕ) → vs ≡ map (in_order Little) vs
little_are [] = refl
little_are (v ∷ vs) = ap (λ (l : List ℕ). v ∷ l) (little_are vs)

order_lt : (e : Endian) (v : ℕ) → v < 0x10000 → in_order e v < 65536
order_lt Big v h = omega (arith, h)
order_lt Little v h = h

unit_bytes : (e : Endian) (v : ℕ) → v < 0x10000 → in_order e v % 256 ∷ in_order e v / 256 % 256 ∷ [] ≡ unit_of (Two e) v
unit_bytes Big v h = ap₂ (λ (a b : ℕ). a ∷ b ∷ []) (omega (arith, h)) (omega (arith, h))
unit_bytes Little v h = ap₂ (λ (a b : ℕ). a ∷ b ∷ []) (omega (arith, h)) (omega (arith, h))

-- the bytes of units, twice as many
pub bytes_are : (e : Endian) (n : ℕ) (units ordered : List ℕ) → length units ≡ n
    → ((k : ℕ) → k < n → get_or units k 0 < 0x10000) → ordered ≡ map (in_order e) units
    → digits_l 256 (twice n) (number_l 65536 ordered) ≡ flat_map (utf16 e) units
bytes_are e n units ordered long p is =
    ap (λ (l : List ℕ). digits_l 256 (twice n) (number_l 65536 l)) is
    ∙ lane_bytes (in_order e) (utf16 e) 0x10000 (order_lt e) (λ v h. unit_bytes e v h
    ∙ sym (one_unit e v h)) n units long p

-- the bytes of the first of some units
pub first_bytes : (e : Endian) (units : List ℕ) (n : ℕ) → AllBelow 0x10000 units
    → take (2 * n) (flat_map (utf16 e) units) ≡ flat_map (utf16 e) (take n units)
first_bytes e [] zero p = refl
first_bytes e [] (suc n) p = ap (λ m. take m []) (let t : 2 * suc n ≡ suc (suc (2 * n)) = omega arith in t)
first_bytes e (v ∷ vs) zero p = refl
first_bytes e (v ∷ vs) (suc n) p =
    let one : utf16 e v ≡ unit_of (Two e) v = one_unit e v (p 0 (omega arith)) in
    let size : length (utf16 e v) ≡ 2 = size_one v (p 0 (omega arith)) e in
    let there : 2 * suc n ≡ length (utf16 e v) + 2 * n = omega (arith, size) in
    ap (λ m. take m (utf16 e v ++ flat_map (utf16 e) vs)) there
    ∙ take-append-add (utf16 e v) (flat_map (utf16 e) vs) (2 * n)
    ∙ ap (λ (x : List ℕ). utf16 e v ++ x) (first_bytes e vs n (below_rest 0x10000 v vs p))

-- lanes of sixteen bits are below 0x10000
pub eight_few : (units : List ℕ) → Each1 (Fits w16) units → AllBelow 0x10000 units
eight_few [] p k h = absurd (omega arith)
eight_few (v ∷ vs) p zero h = p.0.fits
eight_few (v ∷ vs) p (suc k) h = eight_few vs p.1 k (omega arith)

-- each of eight units is below 0x10000
pub few_lanes : (units : List ℕ) → length units ≡ 8 → AllBelow 0x10000 units → (k : ℕ) → k < 8
    → get_or units k 0 < 0x10000
few_lanes units long p k h = p k (omega (arith, long, h))
