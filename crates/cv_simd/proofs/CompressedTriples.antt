-- Four groups of four bytes, of which a table finds the first byte of each, and the second and the third of those whose
-- bits are set.
use Rattle.std.proofs.Common.{◌≡◌, ℕ, ◌+◌, ◌/◌, ◌<◌, Bool, true, cond, List, [], ◌∷◌, ◌++◌, take, drop, get_or, refl}
use Rattle.std.proofs.Common.{◌∙◌}
use Rattle.std.proofs.Common.{ap, ap₂, arith, suc, w8}
use Rattle.std.specs.Prelude.{count_ones}
use Rattle.std.proofs.lemmas.Bool.{agree_below_at}
use Rattle.std.proofs.lemmas.Simd.{swz_l, SwzOk}
use Rattle.cv_simd.specs.Compressed.{flags, from_triples}
use Rattle.cv_simd.proofs.TableRows.{at_all, stands, behind, one, is_row, IsRow, row_is, row_fits, row_first}
use Rattle.cv_simd.specs.declared.triple_indices.TheConstants.{TRIPLE_INDICES}

-- the indexes, from one on, of the first of each four, and of the second and the third if their flags are set
abbrev places : List Bool → List Bool → ℕ → List ℕ
places [] cs i = []
places (b ∷ bs) [] i = []
places (b ∷ bs) (c ∷ cs) i =
    i ∷ (cond b (suc i ∷ []) [] ++ (cond c (suc (suc i) ∷ []) [] ++ places bs cs (suc (suc (suc (suc i))))))

abbrev row : ℕ → List ℕ
row m = get_or TRIPLE_INDICES m []

abbrev row_places : ℕ → List ℕ
row_places m = places (flags 4 m) (flags 4 (m / 16)) 0

rows_are : (m : ℕ) → m < 256 → IsRow (row m) (4 + count_ones m) (row_places m)
unfolding lib.Count.ones
rows_are m h = row_is (row m) (4 + count_ones m) (row_places m)
    (agree_below_at (λ m. is_row (row m) (4 + count_ones m) (row_places m)) (λ m. true) 256 m refl h)

-- a row can be looked up
pub row_ok : (m : ℕ) → m < 256 → SwzOk w8 16 16 0 (row m)
row_ok m h = row_fits (row m) (4 + count_ones m) (row_places m) (rows_are m h)

-- the bytes at the indexes are those that are kept
found : (bs cs : List Bool) (text : List ℕ) (i : ℕ) → at_all text (places bs cs i) ≡ from_triples bs cs (drop i text)
found [] cs text i = refl
found (b ∷ bs) [] text i = refl
found (b ∷ bs) (c ∷ cs) text i =
    let first : get_or text i 0 ≡ get_or (drop i text) 0 0 = stands text i 0 i (omega arith) in
    let second : get_or text (suc i) 0 ≡ get_or (drop i text) 1 0 = stands text i 1 (suc i) (omega arith) in
    let third : get_or text (suc (suc i)) 0 ≡ get_or (drop i text) 2 0 = stands text i 2 (suc (suc i)) (omega arith) in
    let rest : at_all text (places bs cs (suc (suc (suc (suc i))))) ≡ from_triples bs cs (drop 4 (drop i text)) =
    found bs cs text (suc (suc (suc (suc i))))
    ∙ ap (from_triples bs cs) (behind text i 4 (suc (suc (suc (suc i)))) (omega arith)) in
    let behind_second = one c text (suc (suc i)) (get_or (drop i text) 2 0) (places bs cs (suc (suc (suc (suc i)))))
    (from_triples bs cs (drop 4 (drop i text))) third rest in
    ap₂ (λ (x : ℕ) (l : List ℕ). x ∷ l) first (one b text (suc i) (get_or (drop i text) 1 0) _ _ second behind_second)

-- what a row finds
pub row_finds : (m : ℕ) (fours : List ℕ) → m < 256
    → take (4 + count_ones m) (swz_l w8 16 fours 0 (row m)) ≡ from_triples (flags 4 m) (flags 4 (m / 16)) fours
row_finds m fours h = row_first (row m) (4 + count_ones m) (row_places m) fours (rows_are m h)
    ∙ found (flags 4 m) (flags 4 (m / 16)) fours 0
