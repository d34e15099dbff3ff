-- Sixteen units that are tested at once.
use Rattle.std.proofs.Common.{◌≡◌, ℕ, ◌/◌, ◌%◌, ◌^◌, ◌<◌, Bool, false, cond, lit≤, List, length, get_or, map, sym, ◌∙◌}
use Rattle.std.proofs.Common.{ap, arith, w16}
use Rattle.std.specs.Prelude.{replicate}
use Rattle.std.specs.Simd.Lanes.{mask_l, top, zip2}
use Rattle.std.proofs.Math.Dec.{leb, eqb}
use Rattle.std.proofs.lemmas.Bool.{leb-false, eqb-false}
use Rattle.std.proofs.lemmas.List.{length-map, get_or-map, take_all}
use Rattle.std.proofs.lemmas.Simd.{tops_compared, zip2_splat, zip2_splat_left, mask_l-mod, bitmask_splat}
use Rattle.std.proofs.lemmas.Simd.{none_from_empty_mask}
use Rattle.cv_base.specs.Scalars.{IsScalar}

-- no lane passes a test whose bits are all 0
pub none_pass : (p : ℕ → Bool) (xs : List ℕ) → length xs ≡ 16 → mask_l (map p xs) ≡ 0 → (k : ℕ) → k < 16
    → p (get_or xs k 0) ≡ false
none_pass p xs long e k h = none_from_empty_mask p xs 0 16 0 (omega arith)
    (ap (λ (l : List ℕ). mask_l (map p l)) (take_all 16 xs (omega arith)) ∙ e) k (omega arith) (omega arith)

-- if no lane is at least a limit, all are below it
pub all_below : (limit : ℕ) (xs : List ℕ) → length xs ≡ 16 → mask_l
    (map (top 15) (zip2 (λ a b. cond (leb a b) 0xffff 0) (replicate 16 limit) xs)) % 2 ^ 64 ≡ 0 → (k : ℕ) → k < 16
    → get_or xs k 0 < limit
all_below limit xs long e k h =
    let is : mask_l (map (top 15) (zip2 (λ a b. cond (leb a b) 0xffff 0) (replicate 16 limit) xs)) % 2 ^ 64
    ≡ mask_l (map (leb limit) xs) = ap (λ ms. mask_l ms % 2 ^ 64) (tops_compared w16 leb (replicate 16 limit) xs
    ∙ zip2_splat_left leb limit 16 xs long) ∙ mask_l-mod (map (leb limit) xs) 64 (simp length-map (omega arith)) in
    leb-false limit (get_or xs k 0) (none_pass (leb limit) xs long (sym is ∙ e) k h)

pub is_scalar : (u : ℕ) → u < 0x10000 → (u / 0x800 ≡ 27 → ⊥) → IsScalar u
is_scalar u few h = (omega arith, λ s. omega (arith, h))

-- if no lane is a surrogate, each is a character
pub all_scalars : (xs : List ℕ) → length xs ≡ 16 → ((k : ℕ) → k < 16 → get_or xs k 0 < 0x10000)
    → mask_l (map (top 15) (zip2 (λ a b. cond (eqb a b) 0xffff 0) (zip2 (λ a b. a / b) xs (replicate 16 0x800))
    (replicate 16 27))) % 2 ^ 64 ≡ 0 → (k : ℕ) → k < 16 → IsScalar (get_or xs k 0)
all_scalars xs long few e k h =
    let parts : List ℕ = map (λ u. u / 0x800) xs in
    let sixteen : length parts ≡ 16 = length-map xs (λ u. u / 0x800) ∙ long in
    let are : zip2 (λ a b. a / b) xs (replicate 16 0x800) ≡ parts = zip2_splat (λ a b. a / b) xs 16 0x800 long in
    let none : mask_l (map (λ u. eqb u 27) parts) ≡ 0 = sym (bitmask_splat w16 eqb parts 16 27 sixteen (lit≤ tt))
    ∙ ap (λ (l : List ℕ). mask_l (map (top 15) (zip2 (λ a b. cond (eqb a b) 0xffff 0) l (replicate 16 27))) % 2
    ^ 64) (sym are) ∙ e in
    let no : get_or parts k 0 ≡ 27 → ⊥ = eqb-false (get_or parts k 0) 27
    (none_pass (λ u. eqb u 27) parts sixteen none k h) in
    let lane : get_or parts k 0 ≡ get_or xs k 0 / 0x800 = get_or-map (λ u. u / 0x800) xs k 0 0 (omega arith) in
    is_scalar (get_or xs k 0) (few k h) (λ s. no (lane ∙ s))
