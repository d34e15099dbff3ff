-- What vectors compute, lane by lane.
use Rattle.std.proofs.Common.{◌≡◌, ℕ, ◌+◌, ◌*◌, ◌/◌, ◌%◌, ◌^◌, ◌<◌, Bool, true, false, cond, List, [], ◌∷◌, ◌++◌}
use Rattle.std.proofs.Common.{length, get_or, map, refl, sym, ◌∙◌, ap, ap₂, arith, w64, zero, suc}
use Rattle.std.specs.Prelude.{replicate}
use Rattle.std.specs.Int.{bit_at, trailing_zeros}
use Rattle.std.specs.List.{flat_map}
use Rattle.std.specs.Simd.Lanes.{Each1, Each2, mask_l, number_l, digits_l, top, zip2, sel_l}
use Rattle.std.proofs.Math.Dec.{ltb}
use Rattle.std.proofs.lemmas.List.{get_or-map}
use Rattle.std.proofs.lemmas.Nat.Bits.{bit_at-zero, bit_at-trailing_zeros}
use Rattle.std.proofs.lemmas.Simd.{bit_mask_l}

-- one of two numbers, by whether another is below a limit
abbrev pub below : ℕ → ℕ → ℕ → ℕ → ℕ
below k v a b = cond (top 31 (cond (ltb v k) 0xffffffff 0)) a b

-- the quotient of each lane and a number
abbrev pub div_all : ℕ → ℕ → List ℕ → List ℕ
div_all n k xs = zip2 (λ a b. a / b) xs (replicate n k)

-- the remainder of each lane after division by a number
abbrev pub rem_all : ℕ → ℕ → List ℕ → List ℕ
rem_all n k xs = zip2 (λ a b. a % b) xs (replicate n k)

-- the product of each lane and a number
abbrev pub mul_all : ℕ → ℕ → List ℕ → List ℕ
mul_all n k xs = zip2 (λ a b. (a * b) % 2 ^ 32) xs (replicate n k)

-- the sums of the lanes of two vectors
abbrev pub sum_all : List ℕ → List ℕ → List ℕ
sum_all xs ys = zip2 (λ a b. (a + b) % 2 ^ 32) xs ys

-- for each lane that of one of two vectors, by whether the lane of a third is below a limit
abbrev pub below_all : ℕ → ℕ → List ℕ → List ℕ → List ℕ → List ℕ
below_all n k vs xs ys = sel_l (map (top 31) (zip2 (λ a b. cond (ltb a b) 0xffffffff 0) vs (replicate n k))) xs ys

-- no lane is divided by zero if each divisor is above 0
pub divisors : (xs ys : List ℕ) → Each1 (λ (b : ℕ). 0 < b) ys → Each2 (λ (a b : ℕ). 0 < b) xs ys
divisors [] ys p = tt
divisors (x ∷ xs) [] p = tt
divisors (x ∷ xs) (y ∷ ys) p = (p.0, divisors xs ys p.1)

-- all numbers are below a limit
abbrev pub AllBelow : ℕ → List ℕ → Type 0
AllBelow limit vs = (k : ℕ) → k < length vs → get_or vs k 0 < limit

-- so are all but the first
pub below_rest : (limit v : ℕ) (vs : List ℕ) → AllBelow limit (v ∷ vs) → AllBelow limit vs
below_rest limit v vs p k h = p (suc k) (omega arith)

-- twice a number
abbrev pub twice : ℕ → ℕ
twice zero = zero
twice (suc n) = suc (suc (twice n))

-- the bytes of lanes of sixteen bits, each of which has the two bytes of a number
pub lane_bytes : (f : ℕ → ℕ) (g : ℕ → List ℕ) (limit : ℕ) → ((v : ℕ) → v < limit → f v < 65536)
    → ((v : ℕ) → v < limit → f v % 256 ∷ f v / 256 % 256 ∷ [] ≡ g v) → (n : ℕ) (vs : List ℕ) → length vs ≡ n
    → ((k : ℕ) → k < n → get_or vs k 0 < limit)
    → digits_l 256 (twice n) (number_l 65536 (map f vs)) ≡ flat_map g vs
lane_bytes f g limit small is zero [] e p = refl
lane_bytes f g limit small is zero (v ∷ vs) e p = absurd (omega arith)
lane_bytes f g limit small is (suc n) [] e p = absurd (omega arith)
lane_bytes f g limit small is (suc n) (v ∷ vs) e p =
    let few : v < limit = p 0 (omega arith) in
    let w : ℕ = f v in
    let rest : ℕ = number_l 65536 (map f vs) in
    let fits : w < 65536 = small v few in
    let low : (w + 65536 * rest) % 256 ≡ w % 256 = omega arith in
    let high : (w + 65536 * rest) / 256 % 256 ≡ w / 256 % 256 = omega arith in
    let left : (w + 65536 * rest) / 256 / 256 ≡ rest = omega (arith, fits) in
    let more = lane_bytes f g limit small is n vs (omega arith) (λ k h. p (suc k) (omega arith)) in
    ap₂ (λ (a b : List ℕ). a ++ b) (ap₂ (λ (a b : ℕ). a ∷ b ∷ []) low high ∙ is v few)
    (ap (digits_l 256 (twice n)) left ∙ more)

-- 1 if a test is passed, and 0 otherwise
abbrev one_if : Bool → ℕ
one_if b = cond b 1 0

unset : (b : Bool) → one_if b ≡ 0 → b ≡ false
unset true e = cc
unset false e = refl

low_zeros : (m k : ℕ) → m < 2 ^ 64 → k < trailing_zeros w64 m → bit_at m k ≡ 0
low_zeros zero k h l = bit_at-zero k
low_zeros (suc m) k h l = (bit_at-trailing_zeros w64 (suc m) (omega arith) h).2 k l

-- a lane below the lowest set bit of a mask fails the mask's test
pub fails_before : (t : ℕ → Bool) (lanes : List ℕ) (m k : ℕ) → m < 2 ^ 64 → m ≡ mask_l (map t lanes)
    → k < length lanes → k < trailing_zeros w64 m → t (get_or lanes k 0) ≡ false
fails_before t lanes m k small is within l =
    let bit = sym (bit_mask_l (map t lanes) k) ∙ ap (λ x. bit_at x k) (sym is) ∙ low_zeros m k small l in
    sym (get_or-map t lanes k 0 false (omega arith)) ∙ unset _ bit
