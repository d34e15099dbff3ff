-- Eight pairs of bytes, of which a table finds the first of each, and the second of those whose bit is set.
use Rattle.std.proofs.Common.{◌≡◌, ℕ, ◌+◌, ◌<◌, Bool, true, cond, List, [], ◌∷◌, ◌++◌, take, drop, get_or, refl, ◌∙◌}
use Rattle.std.proofs.Common.{ap, ap₂, arith, suc, w8}
use Rattle.std.specs.Prelude.{count_ones}
use Rattle.std.proofs.lemmas.Bool.{agree_below_at}
use Rattle.std.proofs.lemmas.Simd.{swz_l, SwzOk}
use Rattle.cv_simd.specs.Compressed.{flags, from_pairs}
use Rattle.cv_simd.proofs.TableRows.{at_all, stands, behind, one, is_row, IsRow, row_is, row_fits, row_first}
use Rattle.cv_simd.specs.declared.pair_indices.TheConstants.{PAIR_INDICES}

-- the indexes, from one on, of the first of each two, and of the second if its flag is set
abbrev places : List Bool → ℕ → List ℕ
places [] i = []
places (b ∷ bs) i = i ∷ (cond b (suc i ∷ []) [] ++ places bs (suc (suc i)))

abbrev row : ℕ → List ℕ
row m = get_or PAIR_INDICES m []

rows_are : (m : ℕ) → m < 256 → IsRow (row m) (8 + count_ones m) (places (flags 8 m) 0)
unfolding lib.Count.ones
rows_are m h = row_is (row m) (8 + count_ones m) (places (flags 8 m) 0)
    (agree_below_at (λ m. is_row (row m) (8 + count_ones m) (places (flags 8 m) 0)) (λ m. true) 256 m refl h)

-- a row can be looked up
pub row_ok : (m : ℕ) → m < 256 → SwzOk w8 16 16 0 (row m)
row_ok m h = row_fits (row m) (8 + count_ones m) (places (flags 8 m) 0) (rows_are m h)

-- the bytes at the indexes are those that are kept
found : (bs : List Bool) (text : List ℕ) (i : ℕ) → at_all text (places bs i) ≡ from_pairs bs (drop i text)
found [] text i = refl
found (b ∷ bs) text i =
    let first : get_or text i 0 ≡ get_or (drop i text) 0 0 = stands text i 0 i (omega arith) in
    let second : get_or text (suc i) 0 ≡ get_or (drop i text) 1 0 = stands text i 1 (suc i) (omega arith) in
    let rest : at_all text (places bs (suc (suc i))) ≡ from_pairs bs (drop 2 (drop i text)) =
    found bs text (suc (suc i)) ∙ ap (from_pairs bs) (behind text i 2 (suc (suc i)) (omega arith)) in
    ap₂ (λ (x : ℕ) (l : List ℕ). x ∷ l) first
    (one b text (suc i) (get_or (drop i text) 1 0) (places bs (suc (suc i))) _ second rest)

-- what a row finds
pub row_finds : (m : ℕ) (pairs : List ℕ) → m < 256
    → take (8 + count_ones m) (swz_l w8 16 pairs 0 (row m)) ≡ from_pairs (flags 8 m) pairs
row_finds m pairs h =
    row_first (row m) (8 + count_ones m) (places (flags 8 m) 0) pairs (rows_are m h) ∙ found (flags 8 m) pairs 0
