-- The digits of values, as vectors make them.
use Rattle.std.proofs.Common.{◌≡◌, ℕ, zero, suc, ◌+◌, ◌-◌, ◌*◌, ◌/◌, ◌%◌, ◌<◌, Bool, true, cond, List}
use Rattle.std.proofs.Common.{[], ◌∷◌, length, get_or, map, replicate, refl, sym, ap, ◌∙◌, arith}
use Rattle.std.proofs.Common.{w8, nat_eq}
use Rattle.std.specs.Simd.Lanes.{Each1, top, zip2, sel_l}
use Rattle.std.proofs.Math.Dec.{ltb}
use Rattle.std.proofs.lemmas.Bool.{agree_below_at, eqb-true, ltb-true}
use Rattle.std.proofs.lemmas.List.{ext_get_or, get_or-map, length-map}
use Rattle.std.proofs.lemmas.Simd.{Each1-from_get_or, SwzOk, SwzOk-from_below, swz_l, length-swz_l, get_or-swz_l_below}
use Rattle.std.proofs.lemmas.Simd.{get_or-zip2, length-zip2}
use Rattle.cv_utf7.specs.Private.Groups.{offset_index}
use Rattle.cv_utf7.specs.Sets.{digit_of, base64}
use Rattle.cv_utf7.specs.declared.write.digit_lanes.TheConstants.{OFFSETS}

-- where the offsets of values are
abbrev below : ℕ → List ℕ → ℕ → List Bool
below n xs k = map (top 7) (zip2 (λ a b. cond (ltb a b) 0xff 0) xs (replicate n k))

abbrev indexes : ℕ → List ℕ → List ℕ
indexes n xs = sel_l (below n xs 26) (replicate n 13) (zip2 (λ a b. (a + (256 - b)) % 256)
    (sel_l (below n xs 51) (replicate n 51) xs) (replicate n 51))

-- the same of one value
abbrev index : ℕ → ℕ
index x = cond (top 7 (cond (ltb x 26) 0xff 0)) 13 ((cond (top 7 (cond (ltb x 51) 0xff 0)) 51 x + (256 - 51)) % 256)

indexes_at : (n : ℕ) (xs : List ℕ) → length xs ≡ n → indexes n xs ≡ map index xs
indexes_at zero [] e = refl
indexes_at zero (x ∷ xs) e = absurd (omega arith)
indexes_at (suc n) [] e = absurd (omega arith)
indexes_at (suc n) (x ∷ xs) e = ap (λ (l : List ℕ). index x ∷ l) (indexes_at n xs (omega arith))

index_is : (x : ℕ) → x < 256 → index x ≡ offset_index x
index_is x h = eqb-true _ _ (agree_below_at (λ x. nat_eq (index x) (offset_index x)) (λ x. true) 256 x refl h)

all_indexes : (xs : List ℕ) → Each1 (λ x. x < 256) xs → map index xs ≡ map offset_index xs
all_indexes [] h = refl
all_indexes (x ∷ xs) h = rw (index_is x h.0, all_indexes xs h.1) refl

pub indexes_are : (xs : List ℕ) → length xs ≡ 16 → Each1 (λ x. x < 256) xs → indexes 16 xs ≡ map offset_index xs
indexes_are xs long small = indexes_at 16 xs long ∙ all_indexes xs small

index_small : (x : ℕ) → x < 64 → offset_index x < 16
index_small x h = ltb-true _ _ (agree_below_at (λ x. ltb (offset_index x) 16) (λ x. true) 64 x refl h)

-- an index is one of the table
index_below : (xs js : List ℕ) (k : ℕ) → length xs ≡ 16 → js ≡ map offset_index xs
    → ((k : ℕ) → k < 16 → get_or xs k 0 < 64) → k < 16
    → (get_or js k 0 ≡ offset_index (get_or xs k 0)) × (get_or js k 0 < 16)
index_below xs js k long are small h =
    let at : get_or js k 0 ≡ offset_index (get_or xs k 0) = ap (λ (l : List ℕ). get_or l k 0) are
    ∙ get_or-map offset_index xs k 0 0 (omega (arith, long)) in
    (at, omega (arith, at, index_small (get_or xs k 0) (small k h)))

-- the indexes are within the table
pub indexes_ok : (xs js : List ℕ) → length xs ≡ 16 → js ≡ map offset_index xs
    → ((k : ℕ) → k < 16 → get_or xs k 0 < 64) → SwzOk w8 16 16 0 js
indexes_ok xs js long are small =
    let size : length js ≡ 16 = ap length are ∙ length-map xs offset_index ∙ long in
    SwzOk-from_below w8 16 1 16 0 js refl (omega (arith, size)) (Each1-from_get_or (λ j. j < 16) js 0
    (λ k h. (index_below xs js k long are small (omega (arith, size, h))).1))

abbrev digit_at : ℕ → ℕ
digit_at x = (x + get_or OFFSETS (offset_index x) 0) % 256

digit_is : (x : ℕ) → x < 64 → digit_at x ≡ digit_of x
unfolding digit_of base64
digit_is x h = eqb-true _ _ (agree_below_at (λ x. nat_eq (digit_at x) (digit_of x)) (λ x. true) 64 x refl h)

-- the offsets make the digits of the values
pub digits_are : (xs js : List ℕ) → length xs ≡ 16 → js ≡ map offset_index xs
    → ((k : ℕ) → k < 16 → get_or xs k 0 < 64)
    → zip2 (λ x y. (x + y) % 256) xs (swz_l w8 16 OFFSETS 0 js) ≡ map digit_of xs
digits_are xs js long are small =
    let size : length js ≡ 16 = ap length are ∙ length-map xs offset_index ∙ long in
    let offsets : List ℕ = swz_l w8 16 OFFSETS 0 js in
    let there : length offsets ≡ 16 = length-swz_l w8 16 OFFSETS 0 js ∙ size in
    let all : length (zip2 (λ x y. (x + y) % 256) xs offsets) ≡ 16 =
    length-zip2 (λ x y. (x + y) % 256) xs offsets (long ∙ sym there) ∙ long in
    ext_get_or 0 _ _ (all ∙ sym (length-map xs digit_of ∙ long)) (λ k h.
    let l : k < 16 = omega (arith, all, h) in
    let i = index_below xs js k long are small l in
    let row : 16 * ((0 + k) / 16) + get_or js k 0 ≡ get_or js k 0 = omega (arith, l) in
    let offset : get_or offsets k 0 ≡ get_or OFFSETS (offset_index (get_or xs k 0)) 0 =
    get_or-swz_l_below w8 16 OFFSETS 0 js k (omega (arith, size)) i.1
    ∙ ap (λ (j : ℕ). get_or OFFSETS j 0) (row ∙ i.0) in
    get_or-zip2 (λ x y. (x + y) % 256) xs offsets k 0 0 0 (omega (arith, long)) (omega (arith, there))
    ∙ ap (λ (o : ℕ). (get_or xs k 0 + o) % 256) offset ∙ digit_is (get_or xs k 0) (small k l)
    ∙ sym (get_or-map digit_of xs k 0 0 (omega (arith, long))))
