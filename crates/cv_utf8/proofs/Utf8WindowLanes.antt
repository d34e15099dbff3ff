-- What begins in each lane of a window of UTF-8, and its number, as vectors compute them.
use Rattle.std.proofs.Common.{◌≡◌, ℕ, ◌+◌, ◌-◌, ◌*◌, ◌/◌, ◌%◌, ◌^◌, ◌<◌, ◌≤◌, ◌⊎◌, inl, inr, Bool, true, false, not}
use Rattle.std.proofs.Common.{cond, Fits, List, [], ◌∷◌, length, take, drop, get_or, map, min, refl, sym, ◌∙◌, ap}
use Rattle.std.proofs.Common.{arith, zero, suc, w8, w64}
use Rattle.std.specs.Prelude.{replicate}
use Rattle.std.specs.Int.{bit_at, trailing_ones}
use Rattle.std.specs.Int.Bits.{bit_and}
use Rattle.std.specs.Simd.Lanes.{mask_l, top, zip2, sel_l}
use Rattle.std.proofs.Math.Dec.{ltb, eqb}
use Rattle.std.proofs.lemmas.Bool.{lt-ltb, le-ltb}
use Rattle.std.proofs.lemmas.List.{get_or-map}
use Rattle.std.proofs.lemmas.Nat.Bits.{bit_at-lt, bit_at_and, bit_at_ones, bit_at_ones_above}
use Rattle.std.proofs.lemmas.Nat.{one_shl}
use Rattle.std.proofs.lemmas.Simd.{bit_mask_l, length-chunk, get_or-chunk}
use lib.Lanes.{Each1}
use Rattle.cv_utf8.specs.Private.Utf8Short.{is_among, is_continuation, short_of}
use Rattle.cv_utf8.specs.Private.Utf8Windows.{AreMarks, IsOneAt, IsTwoAt, IsThreeAt, three_high, whole_of}
use Rattle.cv_utf8.proofs.Utf8Marks.{one_if}
use Rattle.cv_utf8.proofs.Utf8ShortLanes.{above, above_all}
use Rattle.cv_utf8.proofs.Utf8Covered.{covered, firsts, firsts_of_marks, lt_or_le}
use Rattle.cv_utf8.proofs.Utf8Starting.{begins_if, not_read}

-- the test for bytes that are no continuation bytes
not_behind : (x : ℕ) → x < 256 → is_among 0xc0 0xc0 x ≡ not (is_continuation x)
not_behind x h = grind arith

lane_bit : (b : Bool) → one_if (not b) ≡ cond b 0 1
lane_bit true = refl
lane_bit false = refl

-- in which lanes a character begins
pub beginning_at : (text : List ℕ) (at m k : ℕ) → at + 16 ≤ length text → ((i : ℕ) → Fits w8 (get_or text i 0))
    → m ≡ mask_l (map (is_among 0xc0 0xc0) (take 16 (drop at text))) → k < 16
    → bit_at m k ≡ cond (is_continuation (get_or text (at + k) 0)) 0 1
beginning_at text at m k room fits e h =
    let xs : List ℕ = take 16 (drop at text) in
    let x : ℕ = get_or text (at + k) 0 in
    let lane : get_or (map (is_among 0xc0 0xc0) xs) k false ≡ is_among 0xc0 0xc0 x = get_or-map (is_among 0xc0 0xc0) xs
    k 0 false (omega (arith, length-chunk at 16 text room)) ∙ ap (is_among 0xc0 0xc0) (get_or-chunk at 16 text k 0 h) in
    ap (λ n. bit_at n k) e ∙ bit_mask_l (map (is_among 0xc0 0xc0) xs) k
    ∙ ap one_if (lane ∙ not_behind x (fits (at + k)).fits) ∙ lane_bit (is_continuation x)

below : (a k u : ℕ) (b : Bool) → a < 2 → (k < u → a ≡ cond b 0 1) → k < u ⊎ u ≤ k
    → min a (bit_at (2 ^ u - 1) k) ≡ begins_if b (ltb k u)
below a k u b s e (inl h) =
    let is : min a (bit_at (2 ^ u - 1) k) ≡ cond b 0 1 = omega (arith, e h, bit_at_ones u k h) in
    is ∙ sym (ap (begins_if b) (lt-ltb k u h))
below a k u b s e (inr h) =
    let is : min a (bit_at (2 ^ u - 1) k) ≡ 0 = omega (arith, bit_at_ones_above u k h) in
    is ∙ sym (ap (begins_if b) (le-ltb k u h) ∙ not_read b)

-- in which lanes a complete character begins
pub whole_beginning_at : (text : List ℕ) (at one two three used k : ℕ) → ((i : ℕ) → Fits w8 (get_or text i 0))
    → AreMarks (IsOneAt text) at one → AreMarks (IsTwoAt text) at two → AreMarks (IsThreeAt text) at three
    → used ≡ trailing_ones w64 (covered one two three) → bit_at (bit_and (firsts one two three) (2 ^ used - 1)) k
    ≡ begins_if (is_continuation (get_or text (at + k) 0)) (ltb k used)
whole_beginning_at text at one two three used k fits p q r e = bit_at_and (firsts one two three) (2 ^ used - 1) k
    ∙ below (bit_at (firsts one two three) k) k used (is_continuation (get_or text (at + k) 0))
    (bit_at-lt (firsts one two three) k) (firsts_of_marks text at one two three used k fits p q r e) (lt_or_le k used)

-- a shift of 1 by at most 18 bits does not overflow
pub lowest : (used : ℕ) → used ≤ 18 → (1 * 2 ^ used) % 2 ^ 64 ≡ 2 ^ used
lowest used h = one_shl used 64 (omega arith)

-- ---- bytes

abbrev splat : ℕ → (ℕ → ℕ → ℕ) → ℕ → List ℕ → List ℕ
splat n f k xs = zip2 f xs (replicate n k)

abbrev mask : Bool → Bool
mask b = top 7 (cond b 0xff 0)

abbrev are_below : ℕ → ℕ → List ℕ → List Bool
are_below n k xs = map (top 7) (splat n (λ a b. cond (ltb a b) 0xff 0) k xs)

abbrev are_equal : ℕ → ℕ → List ℕ → List Bool
are_equal n k xs = map (top 7) (splat n (λ a b. cond (eqb a b) 0xff 0) k xs)

abbrev rem_of : ℕ → ℕ → ℕ
rem_of a b = a % b

abbrev part_of : ℕ → ℕ → ℕ
part_of a b = a / b

abbrev product_of : ℕ → ℕ → ℕ
product_of a b = (a * b) % 2 ^ 8

abbrev sum_of : ℕ → ℕ → ℕ
sum_of a b = (a + b) % 2 ^ 8

-- the low byte of two bytes
abbrev low_two : ℕ → List ℕ → List ℕ → List ℕ
low_two n xs ys = zip2 sum_of (splat n product_of 64 xs) (splat n rem_of 64 ys)

-- the high byte of three bytes, if they are no surrogate
abbrev high_three : ℕ → List ℕ → List ℕ → List ℕ
high_three n xs ys = zip2 sum_of (splat n product_of 16 xs) (splat n part_of 4 (splat n rem_of 64 ys))

abbrev three_highs : ℕ → List ℕ → List ℕ → List ℕ
three_highs n xs ys =
    sel_l (are_equal n 27 (splat n part_of 8 (high_three n xs ys))) (replicate n 0) (high_three n xs ys)

abbrev difference_of : ℕ → ℕ → ℕ
difference_of a b = (a + (2 ^ 8 - b)) % 2 ^ 8

abbrev are_three : ℕ → List ℕ → List Bool
are_three n xs = are_below n 0x10 (splat n difference_of 0xe0 xs)

abbrev short_lows : ℕ → List ℕ → List ℕ → List ℕ
short_lows n xs ys = sel_l (are_below n 0xc0 xs) xs (low_two n xs ys)

abbrev short_highs : ℕ → List ℕ → List ℕ
short_highs n xs = splat n part_of 4 (above_all xs (replicate n 0xc0))

abbrev lows : ℕ → List ℕ → List ℕ → List ℕ → List ℕ
lows n xs ys zs =
    sel_l (are_below n 0x80 xs) xs (low_two n (sel_l (are_three n xs) ys xs) (sel_l (are_three n xs) zs ys))

abbrev highs : ℕ → List ℕ → List ℕ → List ℕ → List ℕ
highs n xs hs ts = sel_l (are_three n xs) hs ts

-- ---- one lane

abbrev lane_low_two : ℕ → ℕ → ℕ
lane_low_two x y = sum_of (product_of x 64) (y % 64)

abbrev lane_high_three : ℕ → ℕ → ℕ
lane_high_three x y = sum_of (product_of x 16) (y % 64 / 4)

abbrev lane_three_high : ℕ → ℕ → ℕ
lane_three_high x y = cond (mask (eqb (lane_high_three x y / 8) 27)) 0 (lane_high_three x y)

abbrev is_three : ℕ → Bool
is_three x = mask (ltb (difference_of x 0xe0) 0x10)

abbrev lane_short_low : ℕ → ℕ → ℕ
lane_short_low x y = cond (mask (ltb x 0xc0)) x (lane_low_two x y)

abbrev lane_short_high : ℕ → ℕ
lane_short_high x = above x 0xc0 / 4

abbrev lane_low : ℕ → ℕ → ℕ → ℕ
lane_low x y z = cond (mask (ltb x 0x80)) x (lane_low_two (cond (is_three x) y x) (cond (is_three x) z y))

abbrev lane_high : ℕ → ℕ → ℕ → ℕ
lane_high x h t = cond (is_three x) h t

short_lows_at : (n : ℕ) (xs ys : List ℕ) (k : ℕ) → length xs ≡ n → length ys ≡ n → k < n
    → get_or (short_lows n xs ys) k 0 ≡ lane_short_low (get_or xs k 0) (get_or ys k 0)
short_lows_at zero xs ys k e f h = absurd (omega arith)
short_lows_at (suc n) [] ys k e f h = cc
short_lows_at (suc n) (x ∷ xs) [] k e f h = cc
short_lows_at (suc n) (x ∷ xs) (y ∷ ys) zero e f h = refl
short_lows_at (suc n) (x ∷ xs) (y ∷ ys) (suc k) e f h =
    short_lows_at n xs ys k (omega arith) (omega arith) (omega arith)

short_highs_at : (n : ℕ) (xs : List ℕ) (k : ℕ) → length xs ≡ n → k < n
    → get_or (short_highs n xs) k 0 ≡ lane_short_high (get_or xs k 0)
short_highs_at zero xs k e h = absurd (omega arith)
short_highs_at (suc n) [] k e h = cc
short_highs_at (suc n) (x ∷ xs) zero e h = refl
short_highs_at (suc n) (x ∷ xs) (suc k) e h = short_highs_at n xs k (omega arith) (omega arith)

lows_at : (n : ℕ) (xs ys zs : List ℕ) (k : ℕ) → length xs ≡ n → length ys ≡ n → length zs ≡ n → k < n
    → get_or (lows n xs ys zs) k 0 ≡ lane_low (get_or xs k 0) (get_or ys k 0) (get_or zs k 0)
lows_at zero xs ys zs k e f g h = absurd (omega arith)
lows_at (suc n) [] ys zs k e f g h = cc
lows_at (suc n) (x ∷ xs) [] zs k e f g h = cc
lows_at (suc n) (x ∷ xs) (y ∷ ys) [] k e f g h = cc
lows_at (suc n) (x ∷ xs) (y ∷ ys) (z ∷ zs) zero e f g h = refl
lows_at (suc n) (x ∷ xs) (y ∷ ys) (z ∷ zs) (suc k) e f g h =
    lows_at n xs ys zs k (omega arith) (omega arith) (omega arith) (omega arith)

highs_at : (n : ℕ) (xs hs ts : List ℕ) (k : ℕ) → length xs ≡ n → length hs ≡ n → length ts ≡ n → k < n
    → get_or (highs n xs hs ts) k 0 ≡ lane_high (get_or xs k 0) (get_or hs k 0) (get_or ts k 0)
highs_at zero xs hs ts k e f g h = absurd (omega arith)
highs_at (suc n) [] hs ts k e f g h = cc
highs_at (suc n) (x ∷ xs) [] ts k e f g h = cc
highs_at (suc n) (x ∷ xs) (y ∷ hs) [] k e f g h = cc
highs_at (suc n) (x ∷ xs) (y ∷ hs) (z ∷ ts) zero e f g h = refl
highs_at (suc n) (x ∷ xs) (y ∷ hs) (z ∷ ts) (suc k) e f g h =
    highs_at n xs hs ts k (omega arith) (omega arith) (omega arith) (omega arith)

three_highs_at : (n : ℕ) (xs ys : List ℕ) (k : ℕ) → length xs ≡ n → length ys ≡ n → k < n
    → get_or (three_highs n xs ys) k 0 ≡ lane_three_high (get_or xs k 0) (get_or ys k 0)
three_highs_at zero xs ys k e f h = absurd (omega arith)
three_highs_at (suc n) [] ys k e f h = cc
three_highs_at (suc n) (x ∷ xs) [] k e f h = cc
three_highs_at (suc n) (x ∷ xs) (y ∷ ys) zero e f h = refl
three_highs_at (suc n) (x ∷ xs) (y ∷ ys) (suc k) e f h =
    three_highs_at n xs ys k (omega arith) (omega arith) (omega arith)

-- there are as many high bytes of characters of up to two bytes as bytes
pub short_highs_long : (n : ℕ) (xs : List ℕ) → length xs ≡ n → length (short_highs n xs) ≡ n
short_highs_long zero [] e = refl
short_highs_long zero (x ∷ xs) e = absurd (omega (arith, e))
short_highs_long (suc n) [] e = cc
short_highs_long (suc n) (x ∷ xs) e = omega (arith, short_highs_long n xs (omega arith))

-- there are as many high bytes as bytes
pub three_highs_long : (n : ℕ) (xs ys : List ℕ) → length xs ≡ n → length ys ≡ n → length (three_highs n xs ys) ≡ n
three_highs_long zero [] ys e f = refl
three_highs_long zero (x ∷ xs) ys e f = absurd (omega (arith, e))
three_highs_long (suc n) [] ys e f = cc
three_highs_long (suc n) (x ∷ xs) [] e f = cc
three_highs_long (suc n) (x ∷ xs) (y ∷ ys) e f = omega (arith, three_highs_long n xs ys (omega arith) (omega arith))

short_low_is : (x y : ℕ) → x < 256 → y < 256 → lane_short_low x y ≡ short_of x y % 256
short_low_is x y h k = grind arith

short_high_is : (x : ℕ) → x < 256 → lane_short_high x ≡ short_of x 0 / 256
short_high_is x h = grind arith

low_is : (x y z : ℕ) → x < 256 → y < 256 → z < 256 → lane_low x y z ≡ whole_of x y z % 256
low_is x y z h k l = grind arith

three_high_is : (x y : ℕ) → x < 256 → y < 256 → lane_three_high x y ≡ three_high x y
three_high_is x y h k = grind arith

high_is : (x y : ℕ) → x < 256 → y < 256 → lane_high x (three_high x y) (short_of x 0 / 256) ≡ whole_of x y 0 / 256
high_is x y h k = grind arith

-- ---- sixteen lanes

-- a lane is a byte
pub lane_fits : (xs : List ℕ) (i : ℕ) → Each1 (Fits w8) xs → get_or xs i 0 < 256
lane_fits [] i p = omega arith
lane_fits (x ∷ xs) zero p = p.0.fits
lane_fits (x ∷ xs) (suc i) p = lane_fits xs i p.1

-- the low bytes of characters of up to two bytes
pub short_low_at : (xs ys : List ℕ) (k : ℕ) → length xs ≡ 16 → length ys ≡ 16 → Each1 (Fits w8) xs → Each1 (Fits w8) ys
    → k < 16 → get_or (short_lows 16 xs ys) k 0 ≡ short_of (get_or xs k 0) (get_or ys k 0) % 256
short_low_at xs ys k long also few less h = short_lows_at 16 xs ys k long also h
    ∙ short_low_is (get_or xs k 0) (get_or ys k 0) (lane_fits xs k few) (lane_fits ys k less)

-- the high bytes of characters of up to two bytes
pub short_high_at : (xs : List ℕ) (k : ℕ) → length xs ≡ 16 → Each1 (Fits w8) xs → k < 16
    → get_or (short_highs 16 xs) k 0 ≡ short_of (get_or xs k 0) 0 / 256
short_high_at xs k long few h = short_highs_at 16 xs k long h ∙ short_high_is (get_or xs k 0) (lane_fits xs k few)

-- the low bytes of characters of up to three bytes
pub low_at : (xs ys zs : List ℕ) (k : ℕ) → length xs ≡ 16 → length ys ≡ 16 → length zs ≡ 16 → Each1 (Fits w8) xs
    → Each1 (Fits w8) ys → Each1 (Fits w8) zs → k < 16
    → get_or (lows 16 xs ys zs) k 0 ≡ whole_of (get_or xs k 0) (get_or ys k 0) (get_or zs k 0) % 256
low_at xs ys zs k long also too few less least h = lows_at 16 xs ys zs k long also too h ∙ low_is (get_or xs k 0)
    (get_or ys k 0) (get_or zs k 0) (lane_fits xs k few) (lane_fits ys k less) (lane_fits zs k least)

-- the high bytes of characters of three bytes
pub three_high_at : (xs ys : List ℕ) (k : ℕ) → length xs ≡ 16 → length ys ≡ 16 → Each1 (Fits w8) xs → Each1 (Fits w8) ys
    → k < 16 → get_or (three_highs 16 xs ys) k 0 ≡ three_high (get_or xs k 0) (get_or ys k 0)
three_high_at xs ys k long also few less h = three_highs_at 16 xs ys k long also h
    ∙ three_high_is (get_or xs k 0) (get_or ys k 0) (lane_fits xs k few) (lane_fits ys k less)

-- the high bytes of characters of up to three bytes
pub high_at : (xs ys hs ts : List ℕ) (k : ℕ) → length xs ≡ 16 → length hs ≡ 16 → length ts ≡ 16 → Each1 (Fits w8) xs
    → Each1 (Fits w8) ys → get_or hs k 0 ≡ three_high (get_or xs k 0) (get_or ys k 0) → get_or ts k 0 ≡ short_of
    (get_or xs k 0) 0 / 256 → k < 16 → get_or (highs 16 xs hs ts) k 0 ≡ whole_of (get_or xs k 0) (get_or ys k 0) 0 / 256
high_at xs ys hs ts k long also too few less e f h = highs_at 16 xs hs ts k long also too h
    ∙ rw (e, f) (high_is (get_or xs k 0) (get_or ys k 0) (lane_fits xs k few) (lane_fits ys k less))

-- the numbers of both

abbrev words : ℕ → List ℕ → List ℕ → List ℕ
words n ls hs = zip2 (λ a b. (a + b) % 2 ^ 16) (map (λ a. a) ls)
    (zip2 (λ a b. (a * b) % 2 ^ 16) (map (λ a. a) hs) (replicate n 256))

words_at : (n : ℕ) (ls hs : List ℕ) (k : ℕ) → length ls ≡ n → length hs ≡ n → k < n
    → get_or (words n ls hs) k 0 ≡ (get_or ls k 0 + (get_or hs k 0 * 256) % 2 ^ 16) % 2 ^ 16
words_at zero ls hs k e f h = absurd (omega arith)
words_at (suc n) [] hs k e f h = cc
words_at (suc n) (l ∷ ls) [] k e f h = cc
words_at (suc n) (l ∷ ls) (m ∷ hs) zero e f h = refl
words_at (suc n) (l ∷ ls) (m ∷ hs) (suc k) e f h = words_at n ls hs k (omega arith) (omega arith) (omega arith)

-- each number is that of its bytes
pub word_at : (ls hs : List ℕ) (k : ℕ) → length ls ≡ 16 → length hs ≡ 16 → Each1 (Fits w8) ls → Each1 (Fits w8) hs
    → k < 16 → get_or (words 16 ls hs) k 0 ≡ get_or ls k 0 + 256 * get_or hs k 0
word_at ls hs k long also few less h = words_at 16 ls hs k long also h
    ∙ omega (arith, lane_fits ls k few, lane_fits hs k less)

-- a number of two bytes
pub short_word : (x y : ℕ) → x < 256 → y < 256 → short_of x y % 256 + 256 * (short_of x 0 / 256) ≡ short_of x y
short_word x y h k = grind arith

-- a number of three bytes
pub whole_word : (x y z : ℕ) → x < 256 → y < 256 → z < 256
    → whole_of x y z % 256 + 256 * (whole_of x y 0 / 256) ≡ whole_of x y z
whole_word x y z h k l = grind arith
