-- The pairs of digits of units, and the values of the digits, as vectors make them.
use Rattle.std.proofs.Common.{◌≡◌, ℕ, zero, suc, ◌+◌, ◌*◌, ◌/◌, ◌%◌, ◌<◌, Bool, true, false, cond, List}
use Rattle.std.proofs.Common.{[], ◌∷◌, length, get_or, replicate, refl, ap, ◌∙◌, arith}
use Rattle.std.proofs.Common.{w8}
use Rattle.std.specs.Simd.Lanes.{Each1, number_l, digits_l, zip2}
use Rattle.std.proofs.lemmas.Simd.{swz_l}
use Rattle.std.proofs.lemmas.Simd.{Each1-zip2, Each2-all}
use Rattle.cv_utf7.specs.Private.Groups.{pairs_in, values_in}

-- a fact of each list of eight numbers
pub by_eight : (P : List ℕ → Type 0) → ((a b c d e f g h : ℕ) → P (a ∷ b ∷ c ∷ d ∷ e ∷ f ∷ g ∷ h ∷ [])) → (xs : List ℕ)
    → length xs ≡ 8 → P xs
by_eight P all [] l = absurd (omega arith)
by_eight P all (a ∷ []) l = absurd (omega arith)
by_eight P all (a ∷ b ∷ []) l = absurd (omega arith)
by_eight P all (a ∷ b ∷ c ∷ []) l = absurd (omega arith)
by_eight P all (a ∷ b ∷ c ∷ d ∷ []) l = absurd (omega arith)
by_eight P all (a ∷ b ∷ c ∷ d ∷ e ∷ []) l = absurd (omega arith)
by_eight P all (a ∷ b ∷ c ∷ d ∷ e ∷ f ∷ []) l = absurd (omega arith)
by_eight P all (a ∷ b ∷ c ∷ d ∷ e ∷ f ∷ g ∷ []) l = absurd (omega arith)
by_eight P all (a ∷ b ∷ c ∷ d ∷ e ∷ f ∷ g ∷ h ∷ []) l = all a b c d e f g h
by_eight P all (a ∷ b ∷ c ∷ d ∷ e ∷ f ∷ g ∷ h ∷ i ∷ xs) l = absurd (omega arith)

-- the bytes of lanes, the lower first
abbrev bytes_in : List ℕ → List ℕ
bytes_in [] = []
bytes_in (x ∷ xs) = x % 256 ∷ x / 256 ∷ bytes_in xs

abbrev twice : List ℕ → ℕ
twice [] = 0
twice (x ∷ xs) = suc (suc (twice xs))

narrow : (x n r : ℕ) → x < 65536
    → digits_l 256 (suc (suc n)) (x + 65536 * r) ≡ x % 256 ∷ x / 256 ∷ digits_l 256 n r
narrow x n r h =
    let low : (x + 65536 * r) % 256 ≡ x % 256 = omega arith in
    let high : (x + 65536 * r) / 256 % 256 ≡ x / 256 = omega arith in
    let rest : (x + 65536 * r) / 256 / 256 ≡ r = omega arith in
    rw (low, high, rest) refl

narrow_lanes : (xs : List ℕ) → Each1 (λ x. x < 65536) xs → digits_l 256 (twice xs) (number_l 65536 xs) ≡ bytes_in xs
narrow_lanes [] h = refl
narrow_lanes (x ∷ xs) h = narrow x (twice xs) (number_l 65536 xs) h.0
    ∙ ap (λ (l : List ℕ). x % 256 ∷ x / 256 ∷ l) (narrow_lanes xs h.1)

-- the lanes of bytes
abbrev lanes_in : List ℕ → List ℕ
lanes_in (x ∷ y ∷ xs) = (x + 256 * y) ∷ lanes_in xs
lanes_in few = []

abbrev half : List ℕ → ℕ
half (x ∷ y ∷ xs) = suc (half xs)
half few = 0

wide_lanes : (xs : List ℕ) → Each1 (λ x. x < 256) xs → digits_l 65536 (half xs) (number_l 256 xs) ≡ lanes_in xs
wide_lanes [] h = refl
wide_lanes (x ∷ []) h = refl
wide_lanes (x ∷ y ∷ xs) h =
    let k : x < 256 = h.0 in
    let l : y < 256 = h.1.0 in
    let r : ℕ = number_l 256 xs in
    let low : (x + 256 * (y + 256 * r)) % 65536 ≡ x + 256 * y = omega arith in
    let rest : (x + 256 * (y + 256 * r)) / 65536 ≡ r = omega arith in
    rw (low, rest) (ap (λ (l : List ℕ). (x + 256 * y) ∷ l) (wide_lanes xs h.1.1))

-- the pairs of digits of eight units
abbrev pairs : List ℕ → List ℕ
pairs units = digits_l 65536 8 (number_l 256 (swz_l w8 16 (digits_l 256 16 (number_l 65536 units)) 0
    (0 ∷ 1 ∷ 3 ∷ 0 ∷ 5 ∷ 2 ∷ 4 ∷ 5 ∷ 6 ∷ 7 ∷ 9 ∷ 6 ∷ 11 ∷ 8 ∷ 10 ∷ 11 ∷ [])))

-- a number of a list of bytes, or 0, is a byte
byte_at : (xs : List ℕ) (i : ℕ) → Each1 (λ x. x < 256) xs → get_or xs i 0 < 256
byte_at [] i h = omega arith
byte_at (x ∷ xs) zero h = h.0
byte_at (x ∷ xs) (suc i) h = byte_at xs i h.1

byte_or : (b : Bool) (x : ℕ) → x < 256 → cond b 0 x < 256
byte_or true x h = omega arith
byte_or false x h = h

-- bytes by their indexes are bytes
placed_bytes : (xs : List ℕ) (i : ℕ) (js : List ℕ) → Each1 (λ x. x < 256) xs
    → Each1 (λ x. x < 256) (swz_l w8 16 xs i js)
placed_bytes xs i [] h = tt
placed_bytes xs i (j ∷ js) h =
    (byte_or _ _ (byte_at xs (16 * (i / 16) + j) h), placed_bytes xs (suc i) js h)

-- the bytes of lanes are bytes
are_bytes : (xs : List ℕ) → Each1 (λ x. x < 65536) xs → Each1 (λ x. x < 256) (bytes_in xs)
are_bytes [] h = tt
are_bytes (x ∷ xs) h = let k : x < 65536 = h.0 in (omega arith, (omega arith, are_bytes xs h.1))

whole : (a : ℕ) → a % 256 + 256 * (a / 256) ≡ a
whole a = omega arith

-- the pairs are those of the definition
pub pairs_are : (units : List ℕ) → length units ≡ 8 → Each1 (λ x. x < 65536) units → pairs units ≡ pairs_in units
pairs_are units long = by_eight (λ (units : List ℕ). Each1 (λ x. x < 65536) units → pairs units ≡ pairs_in units)
    (λ a b c d e f g h small.
    let units : List ℕ = a ∷ b ∷ c ∷ d ∷ e ∷ f ∷ g ∷ h ∷ [] in
    let places : List ℕ = 0 ∷ 1 ∷ 3 ∷ 0 ∷ 5 ∷ 2 ∷ 4 ∷ 5 ∷ 6 ∷ 7 ∷ 9 ∷ 6 ∷ 11 ∷ 8 ∷ 10 ∷ 11 ∷ [] in
    ap (λ (l : List ℕ). digits_l 65536 8 (number_l 256 (swz_l w8 16 l 0 places))) (narrow_lanes units small)
    ∙ wide_lanes (swz_l w8 16 (bytes_in units) 0 places)
    (placed_bytes (bytes_in units) 0 places (are_bytes units small))
    ∙ rw (whole a, whole c, whole d, whole f) refl) units long

-- the values of the digits of eight pairs
abbrev quotients : List ℕ → List ℕ → List ℕ
quotients xs by = zip2 (λ x y. x % y) (zip2 (λ x y. x / y) xs by) (replicate 8 64)

abbrev values : List ℕ → List ℕ
values xs = digits_l 256 16 (number_l 65536 (zip2 (λ x y. (x + y) % 65536)
    (quotients xs (1024 ∷ 64 ∷ 1024 ∷ 64 ∷ 1024 ∷ 64 ∷ 1024 ∷ 64 ∷ [])) (zip2 (λ x y. x * y % 65536)
    (quotients xs (16 ∷ 1 ∷ 16 ∷ 1 ∷ 16 ∷ 1 ∷ 16 ∷ 1 ∷ [])) (replicate 8 256))))

-- a lane of two values
abbrev lane : ℕ → ℕ → ℕ
lane x y = (x % 64 + y % 64 * 256 % 65536) % 65536

lane_low : (x y : ℕ) → lane x y % 256 ≡ x % 64
lane_low x y = omega arith

lane_high : (x y : ℕ) → lane x y / 256 ≡ y % 64
lane_high x y = omega arith

few_above : (x : ℕ) → x < 65536 → x / 1024 % 64 ≡ x / 1024
few_above x h = omega arith

by_one : (x : ℕ) → x / 1 % 64 ≡ x % 64
by_one x = omega arith

small_lanes : (xs ys : List ℕ) → Each1 (λ x. x < 65536) (zip2 (λ x y. (x + y) % 65536) xs ys)
small_lanes xs ys = Each1-zip2 (λ x y. (x + y) % 65536) (λ x. x < 65536) xs ys
    (Each2-all (λ x y. (x + y) % 65536 < 65536) (λ x y. omega arith) xs ys)

-- the values are those of the definition
pub values_are : (xs : List ℕ) → length xs ≡ 8 → Each1 (λ x. x < 65536) xs → values xs ≡ values_in xs
values_are xs long = by_eight (λ (xs : List ℕ). Each1 (λ x. x < 65536) xs → values xs ≡ values_in xs)
    (λ a b c d e f g h small.
    let xs : List ℕ = a ∷ b ∷ c ∷ d ∷ e ∷ f ∷ g ∷ h ∷ [] in
    let first : List ℕ = quotients xs (1024 ∷ 64 ∷ 1024 ∷ 64 ∷ 1024 ∷ 64 ∷ 1024 ∷ 64 ∷ []) in
    let second : List ℕ = zip2 (λ x y. x * y % 65536)
    (quotients xs (16 ∷ 1 ∷ 16 ∷ 1 ∷ 16 ∷ 1 ∷ 16 ∷ 1 ∷ [])) (replicate 8 256) in
    narrow_lanes (zip2 (λ x y. (x + y) % 65536) first second) (small_lanes first second)
    ∙ simp (lane_low, lane_high, by_one) (rw (
      few_above a small.0,
      few_above c small.1.1.0,
      few_above e small.1.1.1.1.0,
      few_above g small.1.1.1.1.1.1.0,
    ) refl)) xs long
