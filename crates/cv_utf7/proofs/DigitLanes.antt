-- Digits as vectors compute with them, lane by lane.
use Rattle.std.proofs.Common.{◌≡◌, ℕ, zero, suc, ◌+◌, ◌-◌, ◌*◌, ◌/◌, ◌%◌, ◌<◌, ◌≤◌, Bool, true, cond, eqb, List, []}
use Rattle.std.proofs.Common.{◌∷◌, ◌||◌, map, length, get_or, take, drop, bit_and, refl, ap, ◌∙◌, arith, w8}
use Rattle.std.proofs.Common.{get_or-drop, length-take, length-drop}
use Rattle.std.specs.Prelude.{replicate, not}
use Rattle.std.specs.Simd.Lanes.{Each1, chunk, top, zip2, sel_l}
use Rattle.std.proofs.Math.Dec.{ltb}
use Rattle.std.proofs.lemmas.Bool.{agree_below_at, eqb-true, ltb-true}
use Rattle.std.proofs.lemmas.List.{get_or-take}
use Rattle.std.proofs.lemmas.Simd.{Each1-get_or, Each1-from_get_or, get_or-chunk, get_or-zip2, length-swz_l, swz_l}
use Rattle.std.proofs.lemmas.Simd.{SwzOk}
use Rattle.std.proofs.lemmas.Simd.{SwzOk-from_below, get_or-swz_l_below, length-chunk}
use Rattle.cv_simd.specs.ByteClasses.{is_in}
use Rattle.cv_utf7.specs.Sets.{base64, is_digit, value_of}
use Rattle.cv_utf7.specs.declared.read.digit_bytes.TheConstants.{DIGIT_SET, ADDED, KEPT, INDEXES}

-- the set of digits has the digits
pub digit_in : (b : ℕ) → b < 256 → is_in DIGIT_SET b ≡ is_digit b
unfolding is_in is_digit base64
digit_in b l = agree_below_at (is_in DIGIT_SET) is_digit 256 b refl l

-- ---- the values of digits

entry_of : ℕ → ℕ
entry_of x = cond (top 7 (cond (eqb x 47) 0xff 0)) 1 (x / 16)

abbrev entries : ℕ → List ℕ → List ℕ
entries n xs =
    sel_l (map (top 7) (zip2 (λ a b. cond (eqb a b) 0xff 0) xs (replicate n 47))) (replicate n 1)
    (zip2 (λ a b. a / b) xs (replicate n 16))

entries_at : (n : ℕ) (xs : List ℕ) (k : ℕ) → length xs ≡ n → k < n
    → get_or (entries n xs) k 0 ≡ entry_of (get_or xs k 0)
unfolding entry_of
entries_at zero xs k e h = absurd (omega arith)
entries_at (suc n) [] k e h = absurd (omega arith)
entries_at (suc n) (x ∷ xs) zero e h = refl
entries_at (suc n) (x ∷ xs) (suc k) e h = entries_at n xs k (omega arith) (omega arith)

length-entries : (n : ℕ) (xs : List ℕ) → length xs ≡ n → length (entries n xs) ≡ n
length-entries zero [] e = refl
length-entries zero (x ∷ xs) e = absurd (omega arith)
length-entries (suc n) [] e = absurd (omega arith)
length-entries (suc n) (x ∷ xs) e = ap suc (length-entries n xs (omega arith))

entry_lt : (x : ℕ) → x < 256 → entry_of x < 16
unfolding entry_of
entry_lt x h = ltb-true _ _ (agree_below_at (λ x. ltb (entry_of x) 16) (λ _. true) 256 x refl h)

-- each entry is below sixteen
pub entries_ok : (xs : List ℕ) → length xs ≡ 16 → Each1 (λ x. x < 256) xs → SwzOk w8 16 16 0 (entries 16 xs)
entries_ok xs long small =
    SwzOk-from_below w8 16 1 16 0 (entries 16 xs) refl (omega (arith, length-entries 16 xs long))
    (Each1-from_get_or (λ j. j < 16) (entries 16 xs) 0 (λ i h.
    (let i_lt : i < 16 = omega (arith, length-entries 16 xs long) in
    let is = entries_at 16 xs i long i_lt in
    let x_lt : get_or xs i 0 < 256 = Each1-get_or (λ x. x < 256) xs i 0 (omega (arith, long)) small in
    omega (arith, is, entry_lt (get_or xs i 0) x_lt))))

value_right : ℕ → Bool
value_right x = not (is_digit x) || eqb ((x + get_or ADDED (entry_of x) 0) % 256) (value_of x)

values_right : (x : ℕ) → x < 256 → value_right x ≡ true
unfolding value_right entry_of is_digit value_of base64
values_right x h = agree_below_at value_right (λ _. true) 256 x refl h

value_is : (x : ℕ) → x < 256 → is_digit x ≡ true → (x + get_or ADDED (entry_of x) 0) % 256 ≡ value_of x
unfolding value_right
value_is x h d = eqb-true _ _ (rw d at (values_right x h))

-- the lane of a digit has its value
pub value_lane : (xs : List ℕ) (i : ℕ) → length xs ≡ 16 → Each1 (λ x. x < 256) xs → i < 16
    → is_digit (get_or xs i 0) ≡ true
    → get_or (zip2 (λ a b. (a + b) % 256) xs (swz_l w8 16 ADDED 0 (entries 16 xs))) i 0 ≡ value_of (get_or xs i 0)
value_lane xs i long small h d =
    let size = length-entries 16 xs long in
    let x_lt : get_or xs i 0 < 256 = Each1-get_or (λ x. x < 256) xs i 0 (omega (arith, long)) small in
    let is = entries_at 16 xs i long h in
    let lt : get_or (entries 16 xs) i 0 < 16 = omega (arith, is, entry_lt (get_or xs i 0) x_lt) in
    let there : 16 * ((0 + i) / 16) + get_or (entries 16 xs) i 0 ≡ entry_of (get_or xs i 0) = omega (arith, is, h) in
    let added : get_or (swz_l w8 16 ADDED 0 (entries 16 xs)) i 0 ≡ get_or ADDED (entry_of (get_or xs i 0)) 0 =
    get_or-swz_l_below w8 16 ADDED 0 (entries 16 xs) i (omega (arith, size)) lt
    ∙ ap (λ (j : ℕ). get_or ADDED j 0) there in
    get_or-zip2 (λ a b. (a + b) % 256) xs (swz_l w8 16 ADDED 0 (entries 16 xs)) i 0 0 0 (omega (arith, long))
    (omega (arith, size, length-swz_l w8 16 ADDED 0 (entries 16 xs)))
    ∙ ap (λ (j : ℕ). (get_or xs i 0 + j) % 256) added ∙ value_is (get_or xs i 0) x_lt d

-- ---- the first of them

-- a part of a table
part_at : (table : List ℕ) (from many i : ℕ) → i < 16 → i < many
    → get_or (chunk 0 16 (take many (drop from table))) i 0 ≡ get_or table (from + i) 0
part_at table from many i h l = get_or-chunk 0 16 (take many (drop from table)) i 0 h
    ∙ ap (λ (j : ℕ). get_or (take many (drop from table)) j 0) (omega arith) ∙ get_or-take many (drop from table) i 0 l
    ∙ get_or-drop from table i 0

part_long : (table : List ℕ) (from many : ℕ) → 16 ≤ many → from + many ≤ length table
    → length (chunk 0 16 (take many (drop from table))) ≡ 16
part_long table from many h l =
    length-chunk 0 16 (take many (drop from table)) (simp (length-take, length-drop) (omega arith))

kept_at : (i : ℕ) → i < 16 → get_or KEPT i 0 ≡ 255
kept_at i h = eqb-true _ _ (agree_below_at (λ i. eqb (get_or KEPT i 0) 255) (λ _. true) 16 i refl h)

dropped_at : (i : ℕ) → i < 16 → get_or KEPT (16 + i) 0 ≡ 0
dropped_at i h = eqb-true _ _ (agree_below_at (λ i. eqb (get_or KEPT (16 + i) 0) 0) (λ _. true) 16 i refl h)

all_bits : (x : ℕ) → x < 256 → bit_and x 255 ≡ x
all_bits x h = eqb-true _ _ (agree_below_at (λ x. eqb (bit_and x 255) x) (λ _. true) 256 x refl h)

no_bits : (x : ℕ) → x < 256 → bit_and x 0 ≡ 0
no_bits x h = eqb-true _ _ (agree_below_at (λ x. eqb (bit_and x 0) 0) (λ _. true) 256 x refl h)

kept_lane : (xs : List ℕ) (n many i : ℕ) → length xs ≡ 16 → n ≤ 16 → many ≡ 32 - (16 - n) → i < 16
    → get_or (zip2 bit_and xs (chunk 0 16 (take many (drop (16 - n) KEPT)))) i 0
    ≡ bit_and (get_or xs i 0) (get_or KEPT (16 - n + i) 0)
kept_lane xs n many i long few e h =
    let part : List ℕ = chunk 0 16 (take many (drop (16 - n) KEPT)) in
    let size : length part ≡ 16 = part_long KEPT (16 - n) many (omega arith) (omega arith) in
    get_or-zip2 bit_and xs part i 0 0 0 (omega (arith, long)) (omega (arith, size))
    ∙ ap (λ (j : ℕ). bit_and (get_or xs i 0) j) (part_at KEPT (16 - n) many i h (omega arith))

-- the first values stay
pub first_stays : (xs : List ℕ) (n many i : ℕ) → length xs ≡ 16 → Each1 (λ x. x < 256) xs → n ≤ 16
    → many ≡ 32 - (16 - n) → i < n
    → get_or (zip2 bit_and xs (chunk 0 16 (take many (drop (16 - n) KEPT)))) i 0 ≡ get_or xs i 0
first_stays xs n many i long small few e h =
    let x_lt : get_or xs i 0 < 256 = Each1-get_or (λ x. x < 256) xs i 0 (omega (arith, long)) small in
    kept_lane xs n many i long few e (omega arith)
    ∙ ap (λ (j : ℕ). bit_and (get_or xs i 0) j) (kept_at (16 - n + i) (omega arith)) ∙ all_bits (get_or xs i 0) x_lt

-- the others become zeros
pub other_zero : (xs : List ℕ) (n many i : ℕ) → length xs ≡ 16 → Each1 (λ x. x < 256) xs → n ≤ 16
    → many ≡ 32 - (16 - n) → n ≤ i → i < 16
    → get_or (zip2 bit_and xs (chunk 0 16 (take many (drop (16 - n) KEPT)))) i 0 ≡ 0
other_zero xs n many i long small few e k h =
    let x_lt : get_or xs i 0 < 256 = Each1-get_or (λ x. x < 256) xs i 0 (omega (arith, long)) small in
    let there : 16 - n + i ≡ 16 + (i - n) = omega arith in
    kept_lane xs n many i long few e h
    ∙ ap (λ (j : ℕ). bit_and (get_or xs i 0) (get_or KEPT j 0)) there
    ∙ ap (λ (j : ℕ). bit_and (get_or xs i 0) j) (dropped_at (i - n) (omega arith)) ∙ no_bits (get_or xs i 0) x_lt

-- ---- the bytes from an index on

index_lt : (i : ℕ) → i < 32 → get_or INDEXES i 0 < 16
index_lt i h = ltb-true _ _ (agree_below_at (λ i. ltb (get_or INDEXES i 0) 16) (λ _. true) 32 i refl h)

index_is : (i : ℕ) → i < 16 → get_or INDEXES i 0 ≡ i
index_is i h = eqb-true _ _ (agree_below_at (λ i. eqb (get_or INDEXES i 0) i) (λ _. true) 16 i refl h)

-- the indexes of the bytes are below sixteen
pub indexes_ok : (from many : ℕ) → from ≤ 16 → many ≡ 32 - from
    → SwzOk w8 16 16 0 (chunk 0 16 (take many (drop from INDEXES)))
indexes_ok from many h e =
    let part : List ℕ = chunk 0 16 (take many (drop from INDEXES)) in
    let size : length part ≡ 16 = part_long INDEXES from many (omega arith) (omega arith) in
    SwzOk-from_below w8 16 1 16 0 part refl (omega (arith, size)) (Each1-from_get_or (λ j. j < 16) part 0 (λ i l.
    (let is = part_at INDEXES from many i (omega (arith, size)) (omega (arith, size)) in
    omega (arith, is, index_lt (from + i) (omega (arith, size))))))

-- a byte is that of the text
pub byte_from : (text : List ℕ) (at base many i : ℕ) → base ≤ at → at - base ≤ 16 → many ≡ 32 - (at - base) → i < 16
    → at - base + i < 16
    → get_or (swz_l w8 16 (take 16 (drop base text)) 0 (chunk 0 16 (take many (drop (at - base) INDEXES)))) i 0
    ≡ get_or text (at + i) 0
byte_from text at base many i h few e l m =
    let part : List ℕ = chunk 0 16 (take many (drop (at - base) INDEXES)) in
    let size : length part ≡ 16 = part_long INDEXES (at - base) many (omega arith) (omega arith) in
    let is : get_or part i 0 ≡ at - base + i =
    part_at INDEXES (at - base) many i l (omega arith) ∙ index_is (at - base + i) m in
    let there : 16 * ((0 + i) / 16) + get_or part i 0 ≡ at - base + i = omega (arith, is, l) in
    let back : base + (at - base + i) ≡ at + i = omega arith in
    get_or-swz_l_below w8 16 (take 16 (drop base text)) 0 part i (omega (arith, size)) (omega (arith, is))
    ∙ ap (λ (j : ℕ). get_or (take 16 (drop base text)) j 0) there
    ∙ get_or-take 16 (drop base text) (at - base + i) 0 m ∙ get_or-drop base text (at - base + i) 0
    ∙ ap (λ (j : ℕ). get_or text j 0) back
