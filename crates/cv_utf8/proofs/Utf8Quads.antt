-- The bytes of eight units of up to three bytes, by two numbers for each.
use Rattle.std.proofs.Common.{◌≡◌, ℕ, ◌+◌, ◌*◌, ◌/◌, ◌%◌, ◌^◌, ◌<◌, cond, List, [], ◌∷◌, ◌++◌, length, take, drop}
use Rattle.std.proofs.Common.{length-take, length-drop, get_or, get_or-take, get_or-drop}
use Rattle.std.proofs.Common.{map, refl, sym, ◌∙◌, ap, ap₂, subst, arith, zero, suc}
use Rattle.std.specs.Prelude.{replicate}
use Rattle.std.specs.List.{flat_map}
use Rattle.std.specs.Simd.Lanes.{number_l, digits_l, pick_l, top, zip2, sel_l}
use Rattle.std.proofs.Math.Dec.{leb}
use Rattle.std.proofs.lemmas.List.{take-map}
use Rattle.cv_block.proofs.Lanes.{below_rest}
use Rattle.cv_utf8.specs.Private.ThreeByte.{quad_of, first_two_of, third_of, AreThreeByte, AreSplit}
use Rattle.cv_utf8.proofs.Utf8Sizes.{firsts_are, low_long, high_long, low_three_byte, high_three_byte}

-- ---- two numbers for each, as vectors compute them

abbrev splat : (ℕ → ℕ → ℕ) → ℕ → ℕ → List ℕ → List ℕ
splat f n k xs = zip2 f xs (replicate n k)

abbrev sum_all : List ℕ → List ℕ → List ℕ
sum_all xs ys = zip2 (λ a b. (a + b) % 2 ^ 16) xs ys

abbrev div_all : ℕ → ℕ → List ℕ → List ℕ
div_all n k xs = splat (λ a b. a / b) n k xs

abbrev rem_all : ℕ → ℕ → List ℕ → List ℕ
rem_all n k xs = splat (λ a b. a % b) n k xs

abbrev mul_all : ℕ → ℕ → List ℕ → List ℕ
mul_all n k xs = splat (λ a b. (a * b) % 2 ^ 16) n k xs

-- one of two numbers, by whether a lane is at least a limit
abbrev least : ℕ → ℕ → ℕ → ℕ → ℕ
least k v a b = cond (top 15 (cond (leb k v) 0xffff 0)) a b

abbrev least_all : ℕ → ℕ → List ℕ → List ℕ → List ℕ → List ℕ
least_all n k vs xs ys = sel_l (map (top 15) (zip2 (λ a b. cond (leb a b) 0xffff 0) (replicate n k) vs)) xs ys

abbrev first_two_word : ℕ → ℕ
first_two_word v = least 0x800 v (((v / 4096 + (v / 64 % 64 * 0x100) % 2 ^ 16) % 2 ^ 16 + 0x80e0) % 2 ^ 16)
    (least 0x80 v (((v / 64 + (v % 64 * 0x100) % 2 ^ 16) % 2 ^ 16 + 0x80c0) % 2 ^ 16) v)

abbrev first_two_words : ℕ → List ℕ → List ℕ
first_two_words n vs = least_all n 0x800 vs (sum_all (sum_all (div_all n 4096 vs)
    (mul_all n 0x100 (rem_all n 64 (div_all n 64 vs)))) (replicate n 0x80e0))
    (least_all n 0x80 vs (sum_all (sum_all (div_all n 64 vs) (mul_all n 0x100 (rem_all n 64 vs))) (replicate n 0x80c0))
    vs)

abbrev third_word : ℕ → ℕ
third_word v = least 0x800 v ((v % 64 + 0x80) % 2 ^ 16) 0

abbrev third_words : ℕ → List ℕ → List ℕ
third_words n vs = least_all n 0x800 vs (sum_all (rem_all n 64 vs) (replicate n 0x80)) (replicate n 0)

first_two_is : (v : ℕ) → v < 0x10000 → first_two_word v ≡ first_two_of v
first_two_is v h = grind arith

third_is : (v : ℕ) → third_word v ≡ third_of v
third_is v = grind arith

-- the first numbers of some lanes
pub first_bytes_are : (n : ℕ) (vs : List ℕ) → length vs ≡ n → AreThreeByte vs
    → first_two_words n vs ≡ map first_two_of vs
first_bytes_are zero [] e p = refl
first_bytes_are zero (v ∷ vs) e p = absurd (omega arith)
first_bytes_are (suc n) [] e p = absurd (omega arith)
first_bytes_are (suc n) (v ∷ vs) e p = ap₂ (λ (x : ℕ) (l : List ℕ). x ∷ l) (first_two_is v (p 0 (omega arith)))
    (first_bytes_are n vs (omega arith) (below_rest 0x10000 v vs p))

-- the second numbers of some lanes
pub third_bytes_are : (n : ℕ) (vs : List ℕ) → length vs ≡ n → third_words n vs ≡ map third_of vs
third_bytes_are zero [] e = refl
third_bytes_are zero (v ∷ vs) e = absurd (omega arith)
third_bytes_are (suc n) [] e = absurd (omega arith)
third_bytes_are (suc n) (v ∷ vs) e = ap₂ (λ (x : ℕ) (l : List ℕ). x ∷ l) (third_is v)
    (third_bytes_are n vs (omega arith))

-- ---- their bytes

abbrev numbers_of : ℕ → List ℕ
numbers_of v = first_two_of v ∷ third_of v ∷ []

first_two_lt : (v : ℕ) → v < 0x10000 → first_two_of v < 65536
first_two_lt v h = grind arith

third_lt : (v : ℕ) → third_of v < 65536
third_lt v = grind arith

number_bytes : (v : ℕ) → v < 0x10000 → (first_two_of v % 256) ∷ (first_two_of v / 256 % 256) ∷ (third_of v % 256)
    ∷ (third_of v / 256 % 256) ∷ [] ≡ quad_of v
number_bytes v h = grind arith

abbrev fourfold : ℕ → ℕ
fourfold zero = zero
fourfold (suc n) = suc (suc (suc (suc (fourfold n))))

bytes_of_numbers : (vs : List ℕ) → AreThreeByte vs → digits_l 256 (fourfold (length vs))
    (number_l 65536 (flat_map numbers_of vs)) ≡ flat_map quad_of vs
bytes_of_numbers [] p = refl
bytes_of_numbers (v ∷ vs) p =
    let f : ℕ = first_two_of v in
    let l : ℕ = third_of v in
    let rest : ℕ = number_l 65536 (flat_map numbers_of vs) in
    let a : f < 65536 = first_two_lt v (p 0 (omega arith)) in
    let b : l < 65536 = third_lt v in
    let first : (f + 65536 * (l + 65536 * rest)) % 256 ≡ f % 256 = omega arith in
    let second : (f + 65536 * (l + 65536 * rest)) / 256 % 256 ≡ f / 256 % 256 = omega arith in
    let third : (f + 65536 * (l + 65536 * rest)) / 256 / 256 % 256 ≡ l % 256 = omega (arith, a) in
    let fourth : (f + 65536 * (l + 65536 * rest)) / 256 / 256 / 256 % 256 ≡ l / 256 % 256 = omega (arith, a) in
    let left : (f + 65536 * (l + 65536 * rest)) / 256 / 256 / 256 / 256 ≡ rest = omega (arith, a, b) in
    ap₂ (λ (x : List ℕ) (y : List ℕ). x ++ y) (ap₂ (λ (x : ℕ) (y : List ℕ). x ∷ y) first
    (ap₂ (λ (x : ℕ) (y : List ℕ). x ∷ y) second (ap₂ (λ (x y : ℕ). x ∷ y ∷ []) third fourth))
    ∙ number_bytes v (p 0 (omega arith)))
    (ap (digits_l 256 (fourfold (length vs))) left ∙ bytes_of_numbers vs (below_rest 0x10000 v vs p))

abbrev picked : List ℕ → List ℕ → List ℕ
picked vs lanes = pick_l 0 (map first_two_of vs ++ map third_of vs) lanes

abbrev low_lanes : List ℕ
low_lanes = 0 ∷ 8 ∷ 1 ∷ 9 ∷ 2 ∷ 10 ∷ 3 ∷ 11 ∷ []

abbrev high_lanes : List ℕ
high_lanes = 4 ∷ 12 ∷ 5 ∷ 13 ∷ 6 ∷ 14 ∷ 7 ∷ 15 ∷ []

low_picked : (vs : List ℕ) → length vs ≡ 8 → picked vs low_lanes ≡ flat_map numbers_of (take 4 vs)
low_picked vs long = subst (λ (ws : List ℕ). picked ws low_lanes ≡ flat_map numbers_of (take 4 ws))
    (firsts_are 8 vs long) refl

high_picked : (vs : List ℕ) → length vs ≡ 8 → picked vs high_lanes ≡ flat_map numbers_of (drop 4 vs)
high_picked vs long = subst (λ (ws : List ℕ). picked ws high_lanes ≡ flat_map numbers_of (drop 4 ws))
    (firsts_are 8 vs long) refl

four_bytes : (vs : List ℕ) → length vs ≡ 4 → AreThreeByte vs → digits_l 256 16 (number_l 65536 (flat_map numbers_of vs))
    ≡ flat_map quad_of vs
four_bytes vs long p = ap (λ n. digits_l 256 (fourfold n) (number_l 65536 (flat_map numbers_of vs))) (sym long)
    ∙ bytes_of_numbers vs p

-- the bytes of the first four, from both numbers of all
pub low_bytes : (fs ls vs : List ℕ) → AreSplit fs ls vs
    → digits_l 256 16 (number_l 65536 (pick_l 0 (fs ++ ls) low_lanes)) ≡ flat_map quad_of (take 4 vs)
low_bytes fs ls vs (long, p, f, l) =
    ap (λ (xs : List ℕ). digits_l 256 16 (number_l 65536 xs)) (ap₂ (λ (a b : List ℕ). pick_l 0 (a ++ b) low_lanes) f l
    ∙ low_picked vs long) ∙ four_bytes (take 4 vs) (low_long vs long) (low_three_byte vs long p)

-- the bytes of the other four
pub high_bytes : (fs ls vs : List ℕ) → AreSplit fs ls vs
    → digits_l 256 16 (number_l 65536 (pick_l 0 (fs ++ ls) high_lanes)) ≡ flat_map quad_of (drop 4 vs)
high_bytes fs ls vs (long, p, f, l) =
    ap (λ (xs : List ℕ). digits_l 256 16 (number_l 65536 xs)) (ap₂ (λ (a b : List ℕ). pick_l 0 (a ++ b) high_lanes) f l
    ∙ high_picked vs long) ∙ four_bytes (drop 4 vs) (high_long vs long) (high_three_byte vs long p)

-- ---- both numbers of the halves of sixteen

drop_map : (f : ℕ → ℕ) (n : ℕ) (vs : List ℕ) → drop n (map f vs) ≡ map f (drop n vs)
drop_map f zero vs = refl
drop_map f (suc n) [] = refl
drop_map f (suc n) (v ∷ vs) = drop_map f n vs

-- those of the first eight
pub first_are_split : (vs fs ls fronts lasts : List ℕ) → length vs ≡ 16 → ((k : ℕ) → k < 16 → get_or vs k 0 < 0x10000)
    → fs ≡ map first_two_of vs → ls ≡ map third_of vs → fronts ≡ take 8 fs → lasts ≡ take 8 ls
    → AreSplit fronts lasts (take 8 vs)
first_are_split vs fs ls fronts lasts long p f l g h = (
  omega (arith, length-take 8 vs),
  λ k few. rw get_or-take (p k (omega (arith, few))),
  g ∙ ap (take 8) f ∙ take-map first_two_of 8 vs,
  h ∙ ap (take 8) l ∙ take-map third_of 8 vs,
)

-- those of the last eight
pub last_are_split : (vs fs ls fronts lasts : List ℕ) → length vs ≡ 16 → ((k : ℕ) → k < 16 → get_or vs k 0 < 0x10000)
    → fs ≡ map first_two_of vs → ls ≡ map third_of vs → fronts ≡ drop 8 fs → lasts ≡ drop 8 ls
    → AreSplit fronts lasts (drop 8 vs)
last_are_split vs fs ls fronts lasts long p f l g h = (
  omega (arith, length-drop 8 vs),
  λ k few. rw get_or-drop (p (8 + k) (omega (arith, few))),
  g ∙ ap (drop 8) f ∙ drop_map first_two_of 8 vs,
  h ∙ ap (drop 8) l ∙ drop_map third_of 8 vs,
)
