-- The first lanes of a vector, with zeros after them.
use Rattle.std.proofs.Common.{◌≡◌, ℕ, ◌-◌, Bool, cond, inl, inr, List, [], ◌∷◌, ◌++◌, length, take, map, refl, ◌∙◌}
use Rattle.std.proofs.Common.{ap, arith, w16, zero, suc}
use Rattle.std.specs.Prelude.{replicate}
use Rattle.std.specs.Simd.Lanes.{top, zip2, sel_l}
use Rattle.std.proofs.Math.Dec.{ltb}
use Rattle.std.proofs.lemmas.Bool.{cases_lt, le-ltb, lt-ltb}
use Rattle.std.proofs.lemmas.Simd.{tops_compared, zip2_splat}

-- numbers in order, from one on
abbrev pub places : ℕ → ℕ → List ℕ
places k zero = []
places k (suc m) = k ∷ places (suc k) m

none_of : (n : ℕ) → take {A = ℕ} n [] ≡ []
none_of zero = refl
none_of (suc n) = refl

kept : (xs : List ℕ) (k n m : ℕ) → length xs ≡ m → sel_l (map (λ a. ltb a n) (places k m)) xs (replicate m 0)
    ≡ take (n - k) xs ++ replicate (m - (n - k)) 0
kept [] k n zero e =
    let left : 0 - (n - k) ≡ 0 = omega arith in
    rw (none_of (n - k), left) refl
kept (x ∷ xs) k n (suc m) e = elim (cases_lt k n) [
  | inl l ↦ (
      let less : n - k ≡ suc (n - suc k) = omega arith in
      let rest : suc m - suc (n - suc k) ≡ m - (n - suc k) = omega arith in
      rw (less, rest, lt-ltb k n l) (ap (λ (t : List ℕ). x ∷ t) (kept xs (suc k) n m (omega arith))))
  | inr l ↦ (
      let none : n - k ≡ 0 = omega arith in
      let later : n - suc k ≡ 0 = omega arith in
      let all : suc m - 0 ≡ suc m = omega arith in
      let others : m - 0 ≡ m = omega arith in
      rw (none, all, le-ltb k n l) (ap (λ (t : List ℕ). 0 ∷ t)
      (rw (later, others) at (kept xs (suc k) n m (omega arith)))))
]
kept [] k n (suc m) e = absurd (omega arith)
kept (x ∷ xs) k n zero e = absurd (omega arith)

-- selecting by index gives the first n of m lanes, and zeros after them
pub first_are : (m : ℕ) (xs : List ℕ) (n : ℕ) → length xs ≡ m → length (places 0 m) ≡ m → sel_l
    (map (top 15) (zip2 (λ a b. cond (ltb a b) 0xffff 0) (places 0 m) (replicate m n))) xs (replicate m 0)
    ≡ take n xs ++ replicate (m - n) 0
first_are m xs n long many =
    let start : n - 0 ≡ n = omega arith in
    ap (λ (ms : List Bool). sel_l ms xs (replicate m 0)) (tops_compared w16 ltb (places 0 m) (replicate m n)
    ∙ zip2_splat ltb (places 0 m) m n many) ∙ rw start at (kept xs 0 n m long)
