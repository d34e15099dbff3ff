-- Where the first surrogate of sixteen units is, and the units before it.
use Rattle.std.proofs.Common.{◌≡◌, ℕ, ◌/◌, ◌%◌, ◌^◌, ◌<◌, cond, lit≤, List, length}
use Rattle.std.proofs.Common.{get_or, map, ◌∙◌, ap, arith, w16, w64}
use Rattle.std.specs.Prelude.{replicate}
use Rattle.std.specs.Int.{trailing_zeros}
use Rattle.std.specs.Simd.Lanes.{mask_l, top, zip2}
use Rattle.std.proofs.Math.Dec.{eqb}
use Rattle.std.proofs.lemmas.Bool.{eqb-false}
use Rattle.std.proofs.lemmas.List.{length-map}
use Rattle.std.proofs.lemmas.Simd.{bitmask_splat, map-map, zip2_splat}
use Rattle.cv_base.specs.Scalars.{IsScalar}
use Rattle.cv_block.proofs.Lanes.{fails_before}
use Rattle.cv_transcode.specs.Private.Windows.{is_surrogate}
use Rattle.cv_transcode.proofs.Lanes.{is_scalar}

-- the bits of the units that are surrogates
pub marks_are : (xs : List ℕ) → length xs ≡ 16 → mask_l (map (top 15)
    (zip2 (λ a b. cond (eqb a b) 0xffff 0) (zip2 (λ a b. a / b) xs (replicate 16 0x800)) (replicate 16 27))) % 2 ^ 64
    ≡ mask_l (map is_surrogate xs)
marks_are xs long =
    let parts : List ℕ = map (λ u. u / 0x800) xs in
    let sixteen : length parts ≡ 16 = length-map xs (λ u. u / 0x800) ∙ long in
    let are : zip2 (λ a b. a / b) xs (replicate 16 0x800) ≡ parts = zip2_splat (λ a b. a / b) xs 16 0x800 long in
    ap (λ (l : List ℕ). mask_l (map (top 15) (zip2 (λ a b. cond (eqb a b) 0xffff 0) l (replicate 16 27))) % 2 ^ 64) are
    ∙ bitmask_splat w16 eqb parts 16 27 sixteen (lit≤ tt) ∙ ap mask_l (map-map (λ u. eqb u 27) (λ u. u / 0x800) xs)

-- each unit before the first mark is a character
pub before_mark : (xs : List ℕ) (m k : ℕ) → length xs ≡ 16 → ((k : ℕ) → k < 16 → get_or xs k 0 < 0x10000) → m < 2 ^ 64
    → m ≡ mask_l (map is_surrogate xs) → k < 16 → k < trailing_zeros w64 m → IsScalar (get_or xs k 0)
before_mark xs m k long few small is within l =
    let at = fails_before is_surrogate xs m k small is (omega arith) l in
    is_scalar (get_or xs k 0) (few k within) (eqb-false (get_or xs k 0 / 0x800) 27 at)
