-- Characters of UTF-8 that have three bytes each, eight at once.
use Rattle.std.proofs.Common.{◌≡◌, ◌^◌, ℕ, ◌+◌, ◌-◌, ◌*◌, ◌/◌, ◌%◌, ◌<◌, ◌≤◌, ◌⊎◌, inl, inr, Bool, cond, Fits, List}
use Rattle.std.proofs.Common.{[], ◌∷◌, ◌++◌, length, take, drop, get_or, map, refl, sym, ◌∙◌, ap, ap₂, subst, arith}
use Rattle.std.proofs.Common.{lit<, zero, suc, w8, length-append, length-drop}
use Rattle.std.specs.Prelude.{replicate}
use Rattle.std.specs.List.{flat_map}
use Rattle.std.specs.Simd.Lanes.{Each1, top, zip2, sel_l, number_l, digits_l}
use Rattle.std.proofs.Math.Dec.{ltb, eqb}
use Rattle.std.proofs.lemmas.List.{drop-drop, get_or-drop, get_or_append_left, get_or-append_right}
use Rattle.std.proofs.lemmas.List.Concat.{flat_map-append}
use Rattle.std.proofs.lemmas.Simd.{swz_l, get_or_wider, get_or-chunk}
use Rattle.cv_base.proofs.Front.{Begins-join}
use Rattle.cv_base.specs.Items.{Begins}
use Rattle.cv_block.proofs.FormRuns.{AreScalars-append}
use Rattle.cv_utf8.specs.Utf16Lanes.{AreRead}
use Rattle.cv_utf8.specs.Utf8.{utf8_bytes}
use Rattle.cv_utf8.specs.Private.Utf8Threes.{AreParts, AreThrees, IsThreeOf}
use Rattle.cv_utf8.proofs.Utf8Covered.{lt_or_le}
use Rattle.cv_utf8.proofs.Utf8Long.{IsLongAt, starts_mask}

-- ---- the bytes, spread to four each

abbrev places : List ℕ
places = 0 ∷ 1 ∷ 2 ∷ 128 ∷ 3 ∷ 4 ∷ 5 ∷ 128 ∷ 6 ∷ 7 ∷ 8 ∷ 128 ∷ 9 ∷ 10 ∷ 11 ∷ 128 ∷ []

abbrev spread : List ℕ → List ℕ
spread xs = swz_l w8 16 xs 0 places

abbrev any_bits : List ℕ → List ℕ
any_bits xs = digits_l 65536 8 (number_l 256 (spread xs))

pair : (ys : List ℕ) → 2 ≤ length ys → number_l 256 (take 2 ys) ≡ get_or ys 0 0 + 256 * get_or ys 1 0
pair [] h = absurd (omega arith)
pair (a ∷ []) h = absurd (omega arith)
pair (a ∷ b ∷ ys) h = omega arith

abbrev AreBytes : List ℕ → Type 0
AreBytes xs = (i : ℕ) → i < 16 → get_or xs i 0 < 256

spread_below : (xs : List ℕ) → AreBytes xs → Each1 (λ x. x < 256) (spread xs)
spread_below xs h = (
  h 0 (lit< tt),
  (
    h 1 (lit< tt),
    (
      h 2 (lit< tt),
      (
        lit< tt,
        (
          h 3 (lit< tt),
          (
            h 4 (lit< tt),
            (
              h 5 (lit< tt),
              (
                lit< tt,
                (
                  h 6 (lit< tt),
                  (
                    h 7 (lit< tt),
                    (h 8 (lit< tt), (lit< tt, (h 9 (lit< tt), (h 10 (lit< tt), (h 11 (lit< tt), (lit< tt, tt)))))),
                  ),
                ),
              ),
            ),
          ),
        ),
      ),
    ),
  ),
)

lane_at : (xs : List ℕ) → AreBytes xs → (j : ℕ) → j < 8
    → get_or (any_bits xs) j 0 ≡ get_or (spread xs) (2 * j) 0 + 256 * get_or (spread xs) (2 * j + 1) 0
lane_at xs h j l =
    let s : List ℕ = spread xs in
    let rest : List ℕ = drop (2 * j) s in
    let first : get_or rest 0 0 ≡ get_or s (2 * j) 0 = get_or-drop (2 * j) s 0 0
    ∙ ap (λ i. get_or s i 0) (omega arith) in
    let second : get_or rest 1 0 ≡ get_or s (2 * j + 1) 0 = get_or-drop (2 * j) s 1 0 in
    get_or_wider 256 2 65536 8 s j refl (spread_below xs h) l ∙ pair rest (omega (arith, length-drop (2 * j) s))
    ∙ ap₂ (λ (a b : ℕ). a + 256 * b) first second

front_at : (xs : List ℕ) → AreBytes xs → (k : ℕ) → k < 4
    → get_or (any_bits xs) (2 * k) 0 ≡ get_or xs (3 * k) 0 + 256 * get_or xs (3 * k + 1) 0
front_at xs h zero l = lane_at xs h 0 (lit< tt)
front_at xs h (suc zero) l = lane_at xs h 2 (lit< tt)
front_at xs h (suc (suc zero)) l = lane_at xs h 4 (lit< tt)
front_at xs h (suc (suc (suc zero))) l = lane_at xs h 6 (lit< tt)
front_at xs h (suc (suc (suc (suc k)))) l = absurd (omega arith)

last_at : (xs : List ℕ) → AreBytes xs → (k : ℕ) → k < 4
    → get_or (any_bits xs) (2 * k + 1) 0 ≡ get_or xs (3 * k + 2) 0 + 256 * 0
last_at xs h zero l = lane_at xs h 1 (lit< tt)
last_at xs h (suc zero) l = lane_at xs h 3 (lit< tt)
last_at xs h (suc (suc zero)) l = lane_at xs h 5 (lit< tt)
last_at xs h (suc (suc (suc zero))) l = lane_at xs h 7 (lit< tt)
last_at xs h (suc (suc (suc (suc k)))) l = absurd (omega arith)

in_chunk : (text : List ℕ) (at i : ℕ) → i < 16 → get_or (take 16 (drop at text)) i 0 ≡ get_or text (at + i) 0
in_chunk text at i h = get_or-chunk at 16 text i 0 h

in_chunk_more : (text : List ℕ) (at k j : ℕ) → 3 * k + j < 16
    → get_or (take 16 (drop at text)) (3 * k + j) 0 ≡ get_or text (at + 3 * k + j) 0
in_chunk_more text at k j h = in_chunk text at (3 * k + j) h ∙ ap (λ i. get_or text i 0) (omega arith)

chunk_bytes : (text : List ℕ) (at : ℕ) → ((i : ℕ) → Fits w8 (get_or text i 0)) → AreBytes (take 16 (drop at text))
chunk_bytes text at fits i h = rw (in_chunk text at i h) (fits (at + i)).fits

-- the lanes of sixteen bytes of a text
pub parts_are : (text : List ℕ) (at : ℕ) → ((i : ℕ) → Fits w8 (get_or text i 0))
    → AreParts text at (any_bits (take 16 (drop at text)))
parts_are text at fits =
    let xs : List ℕ = take 16 (drop at text) in
    let h = chunk_bytes text at fits in
    record {
      long = refl;
      fronts = λ k l. front_at xs h k l ∙ ap₂ (λ (a b : ℕ). a + 256 * b) (in_chunk text at (3 * k) (omega arith))
          (in_chunk_more text at k 1 (omega arith));
      lasts = λ k l. last_at xs h k l ∙ omega arith ∙ in_chunk_more text at k 2 (omega arith);
    }

-- ---- the numbers of eight characters

abbrev rem_by : ℕ → ℕ → List ℕ → List ℕ
rem_by n k xs = zip2 (λ a b. a % b) xs (replicate n k)

abbrev part_by : ℕ → ℕ → List ℕ → List ℕ
part_by n k xs = zip2 (λ a b. a / b) xs (replicate n k)

abbrev product_by : ℕ → ℕ → List ℕ → List ℕ
product_by n k xs = zip2 (λ a b. (a * b) % 2 ^ 16) xs (replicate n k)

abbrev sums : List ℕ → List ℕ → List ℕ
sums xs ys = zip2 (λ a b. (a + b) % 2 ^ 16) xs ys

abbrev are : ℕ → ℕ → List ℕ → List Bool
are n k xs = map (top 15) (zip2 (λ a b. cond (eqb a b) 0xffff 0) xs (replicate n k))

abbrev are_below : ℕ → ℕ → List ℕ → List Bool
are_below n k xs = map (top 15) (zip2 (λ a b. cond (ltb a b) 0xffff 0) xs (replicate n k))

abbrev firsts : ℕ → List ℕ → List ℕ
firsts n fs = rem_by n 256 fs

abbrev seconds : ℕ → List ℕ → List ℕ
seconds n fs = part_by n 256 fs

abbrev values : ℕ → List ℕ → List ℕ → List ℕ
values n fs ls = sums (sums (product_by n 4096 (rem_by n 16 (firsts n fs)))
    (product_by n 64 (rem_by n 64 (seconds n fs)))) (rem_by n 64 ls)

abbrev begun_of : ℕ → List ℕ → List ℕ → List ℕ
begun_of n fs ls = sel_l (are n 14 (part_by n 16 (firsts n fs))) (values n fs ls) (replicate n 0)

abbrev followed_of : ℕ → List ℕ → List ℕ → List ℕ
followed_of n fs ls = sel_l (are n 2 (part_by n 64 (seconds n fs))) (begun_of n fs ls) (replicate n 0)

abbrev ended_of : ℕ → List ℕ → List ℕ → List ℕ
ended_of n fs ls = sel_l (are n 2 (part_by n 64 ls)) (followed_of n fs ls) (replicate n 0)

abbrev scalars_of : ℕ → List ℕ → List ℕ → List ℕ
scalars_of n fs ls = sel_l (are n 27 (part_by n 0x800 (values n fs ls))) (replicate n 0) (ended_of n fs ls)

abbrev numbers_of : ℕ → List ℕ → List ℕ → List ℕ
numbers_of n fs ls = sel_l (are_below n 0x800 (values n fs ls)) (replicate n 0) (scalars_of n fs ls)

abbrev mask : Bool → Bool
mask b = top 15 (cond b 0xffff 0)

abbrev value : ℕ → ℕ → ℕ
value f l = (((f % 256 % 16 * 4096) % 2 ^ 16 + (f / 256 % 64 * 64) % 2 ^ 16) % 2 ^ 16 + l % 64) % 2 ^ 16

abbrev number : ℕ → ℕ → ℕ
number f l =
    let starts_mask : ℕ = cond (mask (eqb (f % 256 / 16) 14)) (value f l) 0 in
    let followed : ℕ = cond (mask (eqb (f / 256 / 64) 2)) starts_mask 0 in
    let ended : ℕ = cond (mask (eqb (l / 64) 2)) followed 0 in
    cond (mask (ltb (value f l) 0x800)) 0 (cond (mask (eqb (value f l / 0x800) 27)) 0 ended)

numbers_at : (n : ℕ) (fs ls : List ℕ) (k : ℕ) → length fs ≡ n → length ls ≡ n → k < n
    → get_or (numbers_of n fs ls) k 0 ≡ number (get_or fs k 0) (get_or ls k 0)
numbers_at zero fs ls k e f h = absurd (omega arith)
numbers_at (suc n) [] ls k e f h = cc
numbers_at (suc n) (x ∷ fs) [] k e f h = cc
numbers_at (suc n) (x ∷ fs) (y ∷ ls) zero e f h = refl
numbers_at (suc n) (x ∷ fs) (y ∷ ls) (suc k) e f h = numbers_at n fs ls k (omega arith) (omega arith) (omega arith)

-- there are as many numbers as characters
pub numbers_long : (n : ℕ) (fs ls : List ℕ) → length fs ≡ n → length ls ≡ n → length (numbers_of n fs ls) ≡ n
numbers_long zero [] ls e f = refl
numbers_long zero (x ∷ fs) ls e f = absurd (omega (arith, e))
numbers_long (suc n) [] ls e f = cc
numbers_long (suc n) (x ∷ fs) [] e f = cc
numbers_long (suc n) (x ∷ fs) (y ∷ ls) e f = omega (arith, numbers_long n fs ls (omega arith) (omega arith))

number_is : (f l : ℕ) → f < 0x10000 → l < 256 → IsThreeOf (f % 256) (f / 256) l (number f l)
number_is f l g h = grind arith

-- each number is that of its three bytes
pub number_at : (fs ls : List ℕ) (k : ℕ) → length fs ≡ 8 → length ls ≡ 8 → get_or fs k 0 < 0x10000 → get_or ls k 0 < 256
    → k < 8 → IsThreeOf (get_or fs k 0 % 256) (get_or fs k 0 / 256) (get_or ls k 0) (get_or (numbers_of 8 fs ls) k 0)
number_at fs ls k e f g h l = rw (numbers_at 8 fs ls k e f l) (number_is (get_or fs k 0) (get_or ls k 0) g h)

-- ---- eight characters of a text

abbrev evens : List ℕ → List ℕ
evens xs = get_or xs 0 0 ∷ get_or xs 2 0 ∷ get_or xs 4 0 ∷ get_or xs 6 0 ∷ get_or xs 8 0 ∷ get_or xs 10 0
    ∷ get_or xs 12 0 ∷ get_or xs 14 0 ∷ []

abbrev odds : List ℕ → List ℕ
odds xs = get_or xs 1 0 ∷ get_or xs 3 0 ∷ get_or xs 5 0 ∷ get_or xs 7 0 ∷ get_or xs 9 0 ∷ get_or xs 11 0
    ∷ get_or xs 13 0 ∷ get_or xs 15 0 ∷ []

even_at : (xs : List ℕ) (k : ℕ) → k < 8 → get_or (evens xs) k 0 ≡ get_or xs (2 * k) 0
even_at xs zero h = refl
even_at xs (suc zero) h = refl
even_at xs (suc (suc zero)) h = refl
even_at xs (suc (suc (suc zero))) h = refl
even_at xs (suc (suc (suc (suc zero)))) h = refl
even_at xs (suc (suc (suc (suc (suc zero))))) h = refl
even_at xs (suc (suc (suc (suc (suc (suc zero)))))) h = refl
even_at xs (suc (suc (suc (suc (suc (suc (suc zero))))))) h = refl
even_at xs (suc (suc (suc (suc (suc (suc (suc (suc k)))))))) h = absurd (omega arith)

odd_at : (xs : List ℕ) (k : ℕ) → k < 8 → get_or (odds xs) k 0 ≡ get_or xs (2 * k + 1) 0
odd_at xs zero h = refl
odd_at xs (suc zero) h = refl
odd_at xs (suc (suc zero)) h = refl
odd_at xs (suc (suc (suc zero))) h = refl
odd_at xs (suc (suc (suc (suc zero)))) h = refl
odd_at xs (suc (suc (suc (suc (suc zero))))) h = refl
odd_at xs (suc (suc (suc (suc (suc (suc zero)))))) h = refl
odd_at xs (suc (suc (suc (suc (suc (suc (suc zero))))))) h = refl
odd_at xs (suc (suc (suc (suc (suc (suc (suc (suc k)))))))) h = absurd (omega arith)

-- the lanes of both halves, of the character k
front_of : (text : List ℕ) (at : ℕ) (p q : List ℕ) (k : ℕ) → AreParts text at p → AreParts text (at + 12) q → k < 8
    → get_or (p ++ q) (2 * k) 0 ≡ get_or text (at + 3 * k) 0 + 256 * get_or text (at + 3 * k + 1) 0
front_of text at p q k a b h = elim (lt_or_le k 4) [
  | inl l ↦ get_or_append_left p q 0 (2 * k) (omega (arith, a.long)) ∙ a.fronts k l
  | inr l ↦ (let i : ℕ = k - 4 in
      let place : at + 12 + 3 * i ≡ at + 3 * k = omega arith in
      get_or-append_right p q 8 (2 * k) 0 a.long (omega arith) ∙ ap (λ j. get_or q j 0) (omega arith)
      ∙ b.fronts i (omega arith) ∙ ap (λ j. get_or text j 0 + 256 * get_or text (j + 1) 0) place)
]

last_of : (text : List ℕ) (at : ℕ) (p q : List ℕ) (k : ℕ) → AreParts text at p → AreParts text (at + 12) q → k < 8
    → get_or (p ++ q) (2 * k + 1) 0 ≡ get_or text (at + 3 * k + 2) 0
last_of text at p q k a b h = elim (lt_or_le k 4) [
  | inl l ↦ get_or_append_left p q 0 (2 * k + 1) (omega (arith, a.long)) ∙ a.lasts k l
  | inr l ↦ (let i : ℕ = k - 4 in
      let place : at + 12 + 3 * i ≡ at + 3 * k = omega arith in
      get_or-append_right p q 8 (2 * k + 1) 0 a.long (omega arith) ∙ ap (λ j. get_or q j 0) (omega arith)
      ∙ b.lasts i (omega arith) ∙ ap (λ j. get_or text (j + 2) 0) place)
]

-- the third bytes are bytes
pub odd_small : (text : List ℕ) (at : ℕ) (p q : List ℕ) (k : ℕ) → ((i : ℕ) → Fits w8 (get_or text i 0))
    → AreParts text at p → AreParts text (at + 12) q → k < 8 → get_or (odds (p ++ q)) k 0 < 256
odd_small text at p q k fits a b h = rw (odd_at (p ++ q) k h ∙ last_of text at p q k a b h) (fits (at + 3 * k + 2)).fits

split : (a b : ℕ) → a < 256 → ((a + 256 * b) % 256 ≡ a) × ((a + 256 * b) / 256 ≡ b)
split a b h = (omega arith, omega arith)

-- eight numbers are those of their bytes
pub eight_are : (text : List ℕ) (at : ℕ) (p q numbers : List ℕ) → ((i : ℕ) → Fits w8 (get_or text i 0))
    → AreParts text at p → AreParts text (at + 12) q → ((k : ℕ) → k < 8 → IsThreeOf (get_or (evens (p ++ q)) k 0 % 256)
    (get_or (evens (p ++ q)) k 0 / 256) (get_or (odds (p ++ q)) k 0) (get_or numbers k 0)) → AreThrees text at numbers 8
eight_are text at p q numbers fits a b are k h =
    let x : ℕ = get_or text (at + 3 * k) 0 in
    let y : ℕ = get_or text (at + 3 * k + 1) 0 in
    let parts = split x y (fits (at + 3 * k)).fits in
    let front = even_at (p ++ q) k h ∙ front_of text at p q k a b h in
    let last = odd_at (p ++ q) k h ∙ last_of text at p q k a b h in
    let first = ap (λ n. n % 256) front ∙ parts.0 in
    let second = ap (λ n. n / 256) front ∙ parts.1 in
    subst (λ n. IsThreeOf x y n (get_or numbers k 0)) last
    (subst (λ n. IsThreeOf x n (get_or (odds (p ++ q)) k 0) (get_or numbers k 0)) second (subst (λ n.
    IsThreeOf n (get_or (evens (p ++ q)) k 0 / 256) (get_or (odds (p ++ q)) k 0) (get_or numbers k 0)) first (are k h)))

-- ---- characters of both eights

begins_three : (ys : List ℕ) → 3 ≤ length ys → Begins (get_or ys 0 0 ∷ get_or ys 1 0 ∷ get_or ys 2 0 ∷ []) ys
begins_three [] h = absurd (omega arith)
begins_three (a ∷ []) h = absurd (omega arith)
begins_three (a ∷ b ∷ []) h = absurd (omega arith)
begins_three (a ∷ b ∷ c ∷ ys) h = (refl, (refl, (refl, tt)))

three_at : (text : List ℕ) (at k c : ℕ) → at + 3 * k + 3 ≤ length text → IsThreeOf (get_or text (at + 3 * k) 0)
    (get_or text (at + 3 * k + 1) 0) (get_or text (at + 3 * k + 2) 0) c → 0 < c → IsLongAt 3 (drop at text) (3 * k) c
three_at text at k c room is some = elim is [
  | inl e ↦ absurd (omega (arith, e))
  | inr p ↦ (let here : List ℕ = drop (at + 3 * k) text in
      let place : at + 3 * k + 0 ≡ at + 3 * k = omega arith in
      let first : get_or here 0 0 ≡ get_or text (at + 3 * k) 0 = get_or-drop (at + 3 * k) text 0 0
      ∙ ap (λ i. get_or text i 0) place in
      let second = get_or-drop (at + 3 * k) text 1 0 in
      let third = get_or-drop (at + 3 * k) text 2 0 in
      let bytes : get_or here 0 0 ∷ get_or here 1 0 ∷ get_or here 2 0 ∷ [] ≡ utf8_bytes c =
      ap₂ (λ (x y : ℕ). x ∷ y ∷ get_or here 2 0 ∷ []) first second
      ∙ ap (λ z. get_or text (at + 3 * k) 0 ∷ get_or text (at + 3 * k + 1) 0 ∷ z ∷ []) third ∙ sym p.1 in
      let front : Begins (utf8_bytes c) here =
      subst (λ (b : List ℕ). Begins b here) bytes (begins_three here (omega (arith, length-drop (at + 3 * k) text))) in
      record { scalar = p.0; begins = rw (drop-drop (3 * k) at text) front; long = ap length p.1 })
]

-- characters of three bytes are read, and those of the second eight only if all of the first are
pub threes_read : (text : List ℕ) (at : ℕ) (first second : List ℕ) (firsts seconds : ℕ) → at + 52 ≤ length text
    → length first ≡ 8 → length second ≡ 8 → AreThrees text at first 8 → AreThrees text (at + 24) second 8 → firsts ≤ 8
    → seconds ≤ 8 → ((k : ℕ) → k < firsts → 0 < get_or first k 0) → ((k : ℕ) → k < seconds → 0 < get_or second k 0)
    → (firsts ≡ 8) ⊎ (seconds ≡ 0) → AreRead text
    at (record { first = first; firsts = firsts; second = second; seconds = seconds; used = 3 * (firsts + seconds) })
threes_read text at first second firsts seconds room long size are others few more some rest both =
    let a = starts_mask 3 (drop at text) first firsts (omega arith)
    (λ k l. three_at text at k (get_or first k 0) (omega arith) (are k (omega arith)) (some k l)) in
    let b = starts_mask 3 (drop (at + 24) text) second seconds (omega arith)
    (λ k l. three_at text (at + 24) k (get_or second k 0) (omega arith) (others k (omega arith)) (rest k l)) in
    let front : List ℕ = take firsts first in
    let back : List ℕ = take seconds second in
    let e : flat_map utf8_bytes (front ++ back) ≡ flat_map utf8_bytes front ++ flat_map utf8_bytes back =
    flat_map-append utf8_bytes front back in
    let behind : Begins (flat_map utf8_bytes back) (drop (length (flat_map utf8_bytes front)) (drop at text)) =
    elim both [
      | inl h ↦ (let place : length (flat_map utf8_bytes front) ≡ 24 = a.uses ∙ omega (arith, h) in
          rw (place, drop-drop 24 at text) b.begins)
      | inr h ↦ rw h tt
    ] in
    record {
      few = few;
      others = more;
      scalars = AreScalars-append front back a.scalars b.scalars;
      begins = rw e (Begins-join (flat_map utf8_bytes front) (flat_map utf8_bytes back) (drop at text) a.begins behind);
      uses = rw e (omega (arith, length-append (flat_map utf8_bytes front) (flat_map utf8_bytes back), a.uses, b.uses));
    }
