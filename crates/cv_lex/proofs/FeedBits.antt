-- The first line feed among bytes.
use Rattle.std.proofs.Common.{◌≡◌, ◌≢◌, ℕ, inl, inr, ◌+◌, ◌-◌, ◌^◌, ◌%◌, ◌<◌, ◌≤◌, cond, List, map, length, get_or}
use Rattle.std.proofs.Common.{replicate, subst, arith, lit≤, w8}
use Rattle.std.specs.Prelude.{not}
use Rattle.std.specs.List.{prefix_len}
use Rattle.std.proofs.Math.Dec.{eqb}
use lib.Lanes.{zip2, mask_l, top, chunk}
use lib.Count.{count_trailing_zeros}
use Rattle.std.proofs.lemmas.Bool.{cases_lt, eq-eqb, ne_eqb, eqb-true, eqb-false}
use Rattle.std.proofs.lemmas.Simd.{bitmask_splat, first_set_mask_l, length-chunk, run_in_chunk_fails}
use Rattle.std.proofs.lemmas.Simd.{run_in_chunk_stops, run_in_chunk_le}

-- the bits of line feeds among 32 bytes, as vectors compute them
abbrev pub feeds_of : List ℕ → ℕ
feeds_of xs = mask_l (map (top 7) (zip2 (λ a b. cond (eqb a b) 255 0) xs (replicate 32 10))) % 2 ^ 64

module _ (text : List ℕ) (from : ℕ) (room : from + 32 ≤ length text) where
  -- this many of 32 bytes precede the first line feed
  abbrev pub IsCount : ℕ → Type 0
  IsCount r = r ≡ prefix_len (λ x. not (eqb x 10)) (chunk from 32 text)

  counted : cond (eqb (feeds_of (chunk from 32 text)) 0) 32 (count_trailing_zeros 64 (feeds_of (chunk from 32 text)))
      ≡ prefix_len (λ x. not (eqb x 10)) (chunk from 32 text)
  counted =
      let xs = chunk from 32 text in
      let long = length-chunk from 32 text room in
      rw (bitmask_splat w8 eqb xs 32 10 long (lit≤ tt)) (first_set_mask_l (λ x. eqb x 10) xs 32 long (lit≤ tt))

  -- if no bit is set, there is no line feed among them
  pub count_all : feeds_of (chunk from 32 text) ≡ 0 → IsCount 32
  count_all none = rw (eq-eqb _ 0 none) at counted

  -- if a bit is set, the lowest is that of the first line feed
  pub count_some : feeds_of (chunk from 32 text) ≢ 0 → IsCount (count_trailing_zeros 64 (feeds_of (chunk from 32 text)))
  count_some some = rw (ne_eqb _ 0 some) at counted

  pub count_le : (r : ℕ) → IsCount r → r ≤ 32
  count_le r is = run_in_chunk_le (λ x. eqb x 10) text from 32 r 0 room is

  pub count_before : (r : ℕ) → IsCount r → (k : ℕ) → k < r → get_or text (from + k) 0 ≢ 10
  count_before r is k h =
      eqb-false _ _ (run_in_chunk_fails (λ x. eqb x 10) text from 32 r 0 room is (from + k) (omega arith) (omega arith))

  pub count_at : (r : ℕ) → IsCount r → r < 32 → get_or text (from + r) 0 ≡ 10
  count_at r is h = eqb-true _ _ (run_in_chunk_stops (λ x. eqb x 10) text from 32 r 0 room is h)

-- there is no line feed among some bytes and those after them
pub none_more : (text : List ℕ) (n run : ℕ) → ((k : ℕ) → k < n → get_or text k 0 ≢ 10)
    → ((k : ℕ) → k < run → get_or text (n + k) 0 ≢ 10) → (k : ℕ) → k < n + run → get_or text k 0 ≢ 10
none_more text n run before more k l = elim (cases_lt k n) [
  | inl m ↦ before k m
  | inr m ↦ (
      let there : n + (k - n) ≡ k = omega arith in
      subst (λ (i : ℕ). get_or text i 0 ≢ 10) there (more (k - n) (omega arith)))
]
