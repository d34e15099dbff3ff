-- Tables of indexes, checked against lists by computing, and what is looked up by them.
use Rattle.std.proofs.Common.{◌≡◌, ℕ, ◌+◌, ◌*◌, ◌/◌, ◌%◌, ◌<◌, ◌≤◌, Bool, true, false, cond, ◌&&◌, List, [], ◌∷◌}
use Rattle.std.proofs.Common.{◌++◌, length, drop, get_or, get_or-drop, map, refl, sym, ◌∙◌, ap, ap₂, arith, zero, suc}
use Rattle.std.proofs.Common.{w8, take}
use Rattle.std.specs.Simd.Lanes.{Each1, mask_l}
use Rattle.std.proofs.Math.Dec.{eqb, ltb, leb}
use Rattle.std.proofs.lemmas.Bool.{and_parts, eqb-true, ltb-true, leb-true, agree_below_at}
use Rattle.std.proofs.lemmas.List.{ext_get_or, get_or-map, length-map, drop-drop, take-map}
use Rattle.std.proofs.lemmas.Simd.{Each1-get_or, swz_l, get_or-swz_l_below, length-swz_l, SwzOk, SwzOk-from_below}
use Rattle.std.specs.Prelude.{count_ones}
use Rattle.cv_simd.specs.Compressed.{flags}

bit_is : (b : Bool) (m : ℕ) → eqb ((cond b 1 0 + 2 * m) % 2) 1 ≡ b
bit_is true m = grind arith
bit_is false m = grind arith

rest_is : (b : Bool) (m : ℕ) → (cond b 1 0 + 2 * m) / 2 ≡ m
rest_is true m = omega arith
rest_is false m = omega arith

-- the bits of a mask are what it was made of
pub flags_of : (bs : List Bool) → flags (length bs) (mask_l bs) ≡ bs
flags_of [] = refl
flags_of (b ∷ bs) = ap₂ (λ (a : Bool) (l : List Bool). a ∷ l) (bit_is b (mask_l bs))
    (ap (flags (length bs)) (rest_is b (mask_l bs)) ∙ flags_of bs)

-- whether two lists have the same numbers
abbrev pub same : List ℕ → List ℕ → Bool
same [] [] = true
same [] (y ∷ ys) = false
same (x ∷ xs) [] = false
same (x ∷ xs) (y ∷ ys) = eqb x y && same xs ys

-- whether all numbers are below a limit
abbrev pub all_below : ℕ → List ℕ → Bool
all_below n [] = true
all_below n (x ∷ xs) = ltb x n && all_below n xs

-- lists that the test finds the same are the same
pub same_is : (xs ys : List ℕ) → same xs ys ≡ true → xs ≡ ys
same_is [] [] e = refl
same_is [] (y ∷ ys) e = cc
same_is (x ∷ xs) [] e = cc
same_is (x ∷ xs) (y ∷ ys) e =
    let both = and_parts (eqb x y) (same xs ys) e in
    ap₂ (λ (a : ℕ) (l : List ℕ). a ∷ l) (eqb-true x y both.0) (same_is xs ys both.1)

-- numbers that the test finds below a limit are below it
pub below_is : (n : ℕ) (xs : List ℕ) → all_below n xs ≡ true → Each1 (λ x. x < n) xs
below_is n [] e = tt
below_is n (x ∷ xs) e =
    let both = and_parts (ltb x n) (all_below n xs) e in
    (ltb-true x n both.0, below_is n xs both.1)

-- a number at an index of what follows another index
pub stands : (text : List ℕ) (i k j : ℕ) → j ≡ i + k → get_or text j 0 ≡ get_or (drop i text) k 0
stands text i k j e = ap (λ n. get_or text n 0) e ∙ sym (get_or-drop i text k 0)

-- what follows an index of what follows another
pub behind : (text : List ℕ) (i k j : ℕ) → j ≡ i + k → drop j text ≡ drop k (drop i text)
behind text i k j e = ap (λ n. drop n text) e ∙ sym (drop-drop k i text)

-- the number at an index, and what follows it
pub next_at : (text : List ℕ) (i x : ℕ) (rest : List ℕ) → drop i text ≡ x ∷ rest
    → (get_or text i 0 ≡ x) × (drop (suc i) text ≡ rest)
next_at [] zero x rest e = cc
next_at [] (suc i) x rest e = cc
next_at (t ∷ text) zero x rest e = (cc, cc)
next_at (t ∷ text) (suc i) x rest e = next_at text i x rest e

-- the numbers at some indexes
abbrev pub at_all : List ℕ → List ℕ → List ℕ
at_all text ps = map (λ p. get_or text p 0) ps

-- the number at an index if it is kept, and then those at others
pub one : (b : Bool) (text : List ℕ) (i x : ℕ) (ps xs : List ℕ) → get_or text i 0 ≡ x → at_all text ps ≡ xs
    → at_all text (cond b (i ∷ []) [] ++ ps) ≡ cond b (x ∷ []) [] ++ xs
one true text i x ps xs e more = ap₂ (λ (y : ℕ) (l : List ℕ). y ∷ l) e more
one false text i x ps xs e more = more

-- each index of a row is looked up if all are below sixteen
pub looked_up : (pairs ps : List ℕ) → length ps ≡ 16 → Each1 (λ x. x < 16) ps → swz_l w8 16 pairs 0 ps ≡ at_all pairs ps
looked_up pairs ps long small =
    ext_get_or 0 _ _ (length-swz_l w8 16 pairs 0 ps ∙ sym (length-map ps (λ p. get_or pairs p 0))) (λ i h.
    let within : i < length ps = omega (arith, h, length-swz_l w8 16 pairs 0 ps) in
    let place : 16 * ((0 + i) / 16) + get_or ps i 0 ≡ get_or ps i 0 = omega (arith, long) in
    get_or-swz_l_below w8 16 pairs 0 ps i within (Each1-get_or (λ x. x < 16) ps i 0 within small)
    ∙ ap (λ k. get_or pairs k 0) place
    ∙ sym (get_or-map (λ p. get_or pairs p 0) ps i 0 0 within))

-- whether a row has sixteen indexes below 16, and begins with these
abbrev pub is_row : List ℕ → ℕ → List ℕ → Bool
is_row row n first = same (take n row) first && (all_below 16 row && eqb (length row) 16)

-- A row has sixteen indexes below 16, and begins with these.
pub record IsRow (row : List ℕ) (n : ℕ) (first : List ℕ) : Type 0 where
  pub front : take n row ≡ first
  pub below : Each1 (λ x. x < 16) row
  pub sixteen : length row ≡ 16

-- what the test tells
pub row_is : (row : List ℕ) (n : ℕ) (first : List ℕ) → is_row row n first ≡ true → IsRow row n first
row_is row n first h =
    let a = and_parts (same (take n row) first) (all_below 16 row && eqb (length row) 16) h in
    let b = and_parts (all_below 16 row) (eqb (length row) 16) a.1 in
    record {
      front = same_is (take n row) first a.0;
      below = below_is 16 row b.0;
      sixteen = eqb-true (length row) 16 b.1;
    }

-- the row can be looked up
pub row_fits : (row : List ℕ) (n : ℕ) (first : List ℕ) → IsRow row n first → SwzOk w8 16 16 0 row
row_fits row n first r = SwzOk-from_below w8 16 1 16 0 row refl (omega (arith, r.sixteen)) r.below

-- what it finds first
pub row_first : (row : List ℕ) (n : ℕ) (first text : List ℕ) → IsRow row n first
    → take n (swz_l w8 16 text 0 row) ≡ at_all text first
row_first row n first text r =
    ap (take n) (looked_up text row r.sixteen r.below) ∙ take-map (λ p. get_or text p 0) n row
    ∙ ap (at_all text) r.front

-- no more than eight bits are set
pub few_ones : (m : ℕ) → m < 256 → count_ones m ≤ 8
unfolding lib.Count.ones
few_ones m h = leb-true (count_ones m) 8 (agree_below_at (λ m. leb (count_ones m) 8) (λ m. true) 256 m refl h)
