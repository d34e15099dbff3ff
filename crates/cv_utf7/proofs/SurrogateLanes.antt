-- Lanes that are no surrogates.
use Rattle.std.proofs.Common.{◌≡◌, ℕ, ◌/◌, ◌%◌, ◌^◌, ◌<◌, Bool, false, eqb, List}
use Rattle.std.proofs.Common.{map, length, get_or, sym, ap, ◌∙◌, arith, w16, lit≤, cond, inl, inr}
use Rattle.std.specs.Prelude.{replicate}
use Rattle.std.specs.Simd.Lanes.{Each1, mask_l, top, zip2}
use Rattle.std.proofs.lemmas.Bool.{cases_lt, eqb-false}
use Rattle.std.proofs.lemmas.List.{length-map, get_or-map, take_all}
use Rattle.std.proofs.lemmas.Simd.{Each1-get_or, zip2_splat}
use Rattle.std.proofs.lemmas.Simd.{bitmask_splat, none_from_empty_mask}
use Rattle.cv_base.specs.Scalars.{IsScalar}
use Rattle.cv_block.specs.Surrogates.{IsSurrogate}

none_pass : (p : ℕ → Bool) (xs : List ℕ) → length xs ≡ 8 → mask_l (map p xs) ≡ 0 → (k : ℕ) → k < 8
    → p (get_or xs k 0) ≡ false
none_pass p xs long e k h = none_from_empty_mask p xs 0 8 0 (omega arith)
    (ap (λ (l : List ℕ). mask_l (map p l)) (take_all 8 xs (omega arith)) ∙ e) k (omega arith) (omega arith)

-- if no part is that of the surrogates, no lane is a surrogate
pub no_surrogate : (xs : List ℕ) → length xs ≡ 8
    → mask_l (map (top 15) (zip2 (λ a b. cond (eqb a b) 0xffff 0) (zip2 (λ a b. a / b) xs (replicate 8 0x800))
    (replicate 8 27))) % 2 ^ 64 ≡ 0 → (k : ℕ) → k < 8 → IsSurrogate (get_or xs k 0) → ⊥
no_surrogate xs long e k h s =
    let parts : List ℕ = map (λ u. u / 0x800) xs in
    let eight : length parts ≡ 8 = length-map xs (λ u. u / 0x800) ∙ long in
    let are : zip2 (λ a b. a / b) xs (replicate 8 0x800) ≡ parts = zip2_splat (λ a b. a / b) xs 8 0x800 long in
    let none : mask_l (map (λ u. eqb u 27) parts) ≡ 0 = sym (bitmask_splat w16 eqb parts 8 27 eight (lit≤ tt))
    ∙ ap (λ (l : List ℕ). mask_l (map (top 15) (zip2 (λ a b. cond (eqb a b) 0xffff 0) l (replicate 8 27))) % 2
    ^ 64) (sym are) ∙ e in
    let no : get_or parts k 0 ≡ 27 → ⊥ = eqb-false (get_or parts k 0) 27
    (none_pass (λ u. eqb u 27) parts eight none k h) in
    let lane : get_or parts k 0 ≡ get_or xs k 0 / 0x800 = get_or-map (λ u. u / 0x800) xs k 0 0 (omega arith) in
    no (omega (arith, lane, s.0, s.1))

-- what is no surrogate is a scalar value
pub unit_scalar : (xs : List ℕ) (k : ℕ) → length xs ≡ 8 → Each1 (λ x. x < 65536) xs → k < 8
    → (IsSurrogate (get_or xs k 0) → ⊥) → IsScalar (get_or xs k 0)
unit_scalar xs k long small h other =
    let lt : get_or xs k 0 < 65536 = Each1-get_or (λ x. x < 65536) xs k 0 (omega (arith, long)) small in
    (omega (arith, lt), λ s. elim (cases_lt (get_or xs k 0) 0xE000) [ inl m ↦ absurd (other (s, m)) | inr m ↦ m ])
