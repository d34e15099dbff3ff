-- Sixteen bytes that are tested at once.
use Rattle.std.proofs.Common.{◌≡◌, ℕ, ◌+◌, ◌-◌, ◌%◌, ◌^◌, ◌<◌, ◌≤◌, Bool, cond, eqb, not, lit≤, List, length, take}
use Rattle.std.proofs.Common.{drop, get_or, map, ◌∙◌, ap, subst, arith, w8, true, false, refl, sym, inl, inr}
use Rattle.std.specs.Prelude.{replicate, IsTrue, ◌&&◌}
use Rattle.std.specs.List.{prefix_len}
use Rattle.std.specs.Int.Count.{count_trailing_zeros}
use Rattle.std.specs.Simd.Lanes.{mask_l, top, zip2}
use Rattle.std.proofs.Math.Dec.{leb}
use Rattle.std.proofs.lemmas.Bool.{leb-false, cases_lt, true≢false}
use Rattle.std.proofs.lemmas.List.{length-map}
use Rattle.std.proofs.lemmas.Simd.{tops_compared, zip2_splat_left, mask_l-mod, run_in_chunk_le, run_in_chunk_fails}
use Rattle.std.proofs.lemmas.Simd.{length-chunk, first_set_mask_l}

-- a mask of the bytes that are at least 128, as vectors compute it
abbrev pub others : List ℕ → ℕ
others xs = mask_l (map (top 7) (zip2 (λ a b. cond (leb a b) 255 0) (replicate 16 128) xs)) % 2 ^ 64

abbrev is_other : ℕ → Bool
is_other x = leb 128 x

others_mask : (xs : List ℕ) → length xs ≡ 16 → others xs ≡ mask_l (map is_other xs)
others_mask xs long = ap (λ ms. mask_l ms % 2 ^ 64) (tops_compared w8 leb (replicate 16 128) xs
    ∙ zip2_splat_left leb 128 16 xs long) ∙ mask_l-mod (map is_other xs) 64 (simp length-map (omega arith))

-- The lowest bit of the mask is that of the first byte that is at least 128.
pub ascii_before : (bytes : List ℕ) (at front : ℕ) → at + 16 ≤ length bytes → front
    ≡ cond (eqb (others (take 16 (drop at bytes))) 0) 16 (count_trailing_zeros 64 (others (take 16 (drop at bytes))))
    → (front ≤ 16) × ((k : ℕ) → k < front → get_or bytes (at + k) 0 < 128)
ascii_before bytes at front room e =
    let xs : List ℕ = take 16 (drop at bytes) in
    let long : length xs ≡ 16 = length-chunk at 16 bytes room in
    let first : front ≡ prefix_len (λ x. not (is_other x)) xs = e ∙ ap (λ m. cond (eqb m 0) 16
    (count_trailing_zeros 64 m)) (others_mask xs long) ∙ first_set_mask_l is_other xs 16 long (lit≤ tt) in (
      run_in_chunk_le is_other bytes at 16 front 0 room first,
      λ k h. leb-false 128 (get_or bytes (at + k) 0)
          (run_in_chunk_fails is_other bytes at 16 front 0 room first (at + k) (omega arith) (omega arith)),
    )

-- if none of sixteen bytes is at least 128, each is below it
pub all_below : (bytes : List ℕ) (at : ℕ) → at + 16 ≤ length bytes → 16
    ≡ cond (eqb (others (take 16 (drop at bytes))) 0) 16 (count_trailing_zeros 64 (others (take 16 (drop at bytes))))
    → (k : ℕ) → at ≤ k → k < at + 16 → get_or bytes k 0 < 128
all_below bytes at room e k l m =
    let there : at + (k - at) ≡ k = omega arith in
    subst (λ (j : ℕ). get_or bytes j 0 < 128) there ((ascii_before bytes at 16 room e).1 (k - at) (omega arith))

-- sixteen bytes more are below 128 if those before them are and their mask has no bit
pub sixteen_more : (bytes : List ℕ) (at end : ℕ) (all : Bool) → end + 16 ≤ length bytes
    → (IsTrue all → (k : ℕ) → at ≤ k → k < end → get_or bytes k 0 < 128)
    → IsTrue (all && eqb (others (take 16 (drop end bytes))) 0)
    → (k : ℕ) → at ≤ k → k < end + 16 → get_or bytes k 0 < 128
sixteen_more bytes at end true room before h k l m = elim (cases_lt k end) [
  | inl below ↦ before refl k l below
  | inr behind ↦ all_below bytes end room (rw h refl) k behind m
]
sixteen_more bytes at end false room before h k l m = absurd (true≢false (sym h))
