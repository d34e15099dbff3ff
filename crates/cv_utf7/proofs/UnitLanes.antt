-- Code units as vectors make them of digits' values, lane by lane.
use Rattle.std.proofs.Common.{◌≡◌, ℕ, zero, suc, ◌+◌, ◌*◌, ◌/◌, ◌%◌, ◌^◌, ◌<◌, List, [], ◌∷◌}
use Rattle.std.proofs.Common.{map, length, get_or, take, drop, refl, sym, ap, ap₂, ◌∙◌, arith, drop-cons}
use Rattle.std.specs.Simd.Lanes.{Each1, chunk, number_l, digits_l, pick_l}
use Rattle.std.proofs.lemmas.List.{get_or-map}
use Rattle.std.proofs.lemmas.Simd.{Each1-get_or, Each1-from_get_or, get_or_wider, get_or_narrower}
use Rattle.cv_utf7.specs.Private.SixteenDigits.{AreQuads, AreUnits}

-- two neighbours
two_from : (xs : List ℕ) (i : ℕ) → i + 1 < length xs → chunk i 2 xs ≡ get_or xs i 0 ∷ get_or xs (i + 1) 0 ∷ []
two_from xs i h =
    let first : drop i xs ≡ get_or xs i 0 ∷ drop (suc i) xs = drop-cons xs i 0 (omega arith) in
    let second : drop (suc i) xs ≡ get_or xs (suc i) 0 ∷ drop (suc (suc i)) xs = drop-cons xs (suc i) 0 (omega arith) in
    let place : suc i ≡ i + 1 = omega arith in
    ap (take 2) first ∙ ap (λ (rest : List ℕ). get_or xs i 0 ∷ take 1 rest) second
    ∙ ap (λ (j : ℕ). get_or xs i 0 ∷ get_or xs j 0 ∷ []) place

-- a lane of twice the width has two lanes, the lower one first
wider_at : (p q n : ℕ) (xs : List ℕ) (k : ℕ) → q ≡ p ^ 2 → Each1 (λ x. x < p) xs → k < n → 2 * k + 1 < length xs
    → get_or (digits_l q n (number_l p xs)) k 0 ≡ get_or xs (2 * k) 0 + p * (get_or xs (2 * k + 1) 0 + p * 0)
wider_at p q n xs k e small h l =
    get_or_wider p 2 q n xs k e small h ∙ ap (number_l p) (two_from xs (2 * k) l)

-- four neighbours
four_from : (xs : List ℕ) (i : ℕ) → i + 3 < length xs → chunk i 4 xs
    ≡ get_or xs i 0 ∷ get_or xs (i + 1) 0 ∷ get_or xs (i + 2) 0 ∷ get_or xs (i + 3) 0 ∷ []
four_from xs i h =
    let one : suc i ≡ i + 1 = omega arith in
    let two : suc (i + 1) ≡ i + 2 = omega arith in
    let three : suc (i + 2) ≡ i + 3 = omega arith in
    let first : drop i xs ≡ get_or xs i 0 ∷ drop (i + 1) xs =
    drop-cons xs i 0 (omega arith) ∙ ap (λ (j : ℕ). get_or xs i 0 ∷ drop j xs) one in
    let second : drop (i + 1) xs ≡ get_or xs (i + 1) 0 ∷ drop (i + 2) xs =
    drop-cons xs (i + 1) 0 (omega arith) ∙ ap (λ (j : ℕ). get_or xs (i + 1) 0 ∷ drop j xs) two in
    let third : drop (i + 2) xs ≡ get_or xs (i + 2) 0 ∷ drop (i + 3) xs =
    drop-cons xs (i + 2) 0 (omega arith) ∙ ap (λ (j : ℕ). get_or xs (i + 2) 0 ∷ drop j xs) three in
    let fourth : drop (i + 3) xs ≡ get_or xs (i + 3) 0 ∷ drop (suc (i + 3)) xs = drop-cons xs (i + 3) 0 (omega arith) in
    ap (take 4) first
    ∙ ap (λ (rest : List ℕ). get_or xs i 0 ∷ take 3 rest) second
    ∙ ap (λ (rest : List ℕ). get_or xs i 0 ∷ get_or xs (i + 1) 0 ∷ take 2 rest) third
    ∙ ap (λ (rest : List ℕ). get_or xs i 0 ∷ get_or xs (i + 1) 0 ∷ get_or xs (i + 2) 0 ∷ take 1 rest) fourth

bytes_fit : (n x : ℕ) → Each1 (λ d. d < 256) (digits_l 256 n x)
bytes_fit zero x = tt
bytes_fit (suc n) x = (omega arith, bytes_fit n (x / 256))

-- ---- pairs of digits, and then four

abbrev pub pair_of : ℕ → ℕ
pair_of w = (w % 256 * 64 % 65536 + w / 256) % 65536

abbrev pub quad_of : ℕ → ℕ
quad_of w = (w % 65536 * 4096 % 4294967296 + w / 65536) % 4294967296

abbrev pub pairs : List ℕ → List ℕ
pairs xs = map pair_of (digits_l 65536 8 (number_l 256 xs))

-- lanes of sixteen bits as lanes of 32
abbrev pub halves : List ℕ → List ℕ
halves xs = digits_l 4294967296 4 (number_l 256 (digits_l 256 16 (number_l 65536 xs)))

abbrev pub quads : List ℕ → List ℕ
quads xs = map quad_of (halves (pairs xs))

pair_at : (xs : List ℕ) (k : ℕ) → length xs ≡ 16 → Each1 (λ x. x < 256) xs → k < 8
    → get_or (pairs xs) k 0 ≡ get_or xs (2 * k) 0 * 64 + get_or xs (2 * k + 1) 0
pair_at xs k long small h =
    let wide = wider_at 256 65536 8 xs k refl small h (omega (arith, long)) in
    let low : get_or xs (2 * k) 0 < 256 = Each1-get_or (λ x. x < 256) xs (2 * k) 0 (omega (arith, long)) small in
    let high : get_or xs (2 * k + 1) 0 < 256 =
    Each1-get_or (λ x. x < 256) xs (2 * k + 1) 0 (omega (arith, long)) small in
    get_or-map pair_of (digits_l 65536 8 (number_l 256 xs)) k 0 0 h ∙ omega (arith, wide, low, high)

pair_from : (xs : List ℕ) (k i j : ℕ) → length xs ≡ 16 → Each1 (λ x. x < 256) xs → k < 8 → i ≡ 2 * k → j ≡ 2 * k + 1
    → get_or (pairs xs) k 0 ≡ get_or xs i 0 * 64 + get_or xs j 0
pair_from xs k i j long small h e f = pair_at xs k long small h
    ∙ ap₂ (λ (i j : ℕ). get_or xs i 0 * 64 + get_or xs j 0) (sym e) (sym f)

pairs_fit : (xs : List ℕ) → Each1 (λ x. x < 65536) (pairs xs)
pairs_fit xs = Each1-from_get_or (λ x. x < 65536) (pairs xs) 0 (λ i h.
    (let e = get_or-map pair_of (digits_l 65536 8 (number_l 256 xs)) i 0 0 h in omega (arith, e)))

half_byte : (ps : List ℕ) → Each1 (λ x. x < 65536) ps → (m r j : ℕ) → r < 2 → 2 * m + r < 16 → j ≡ 2 * m + r
    → get_or (digits_l 256 16 (number_l 65536 ps)) j 0 ≡ get_or ps m 0 / 256 ^ r % 256
half_byte ps small m r j h l e = ap (λ (i : ℕ). get_or (digits_l 256 16 (number_l 65536 ps)) i 0) e
    ∙ get_or_narrower 65536 2 256 16 ps m r refl small h l

-- a lane of 32 bits has two of sixteen, the lower one first
half_at : (ps : List ℕ) (k : ℕ) → length ps ≡ 8 → Each1 (λ x. x < 65536) ps → k < 4
    → get_or (halves ps) k 0 ≡ get_or ps (2 * k) 0 + 65536 * get_or ps (2 * k + 1) 0
half_at ps k long small h =
    let bytes : List ℕ = digits_l 256 16 (number_l 65536 ps) in
    let b0 = half_byte ps small (2 * k) 0 (4 * k) (omega arith) (omega arith) (omega arith) in
    let b1 = half_byte ps small (2 * k) 1 (4 * k + 1) (omega arith) (omega arith) (omega arith) in
    let b2 = half_byte ps small (2 * k + 1) 0 (4 * k + 2) (omega arith) (omega arith) (omega arith) in
    let b3 = half_byte ps small (2 * k + 1) 1 (4 * k + 3) (omega arith) (omega arith) (omega arith) in
    let p : get_or ps (2 * k) 0 < 65536 = Each1-get_or (λ x. x < 65536) ps (2 * k) 0 (omega (arith, long)) small in
    let q : get_or ps (2 * k + 1) 0 < 65536 =
    Each1-get_or (λ x. x < 65536) ps (2 * k + 1) 0 (omega (arith, long)) small in
    get_or_wider 256 4 4294967296 4 bytes k refl (bytes_fit 16 (number_l 65536 ps)) h
    ∙ ap (number_l 256) (four_from bytes (4 * k) (omega arith)) ∙ omega (arith, b0, b1, b2, b3, p, q)

-- each lane is the number of four values
pub quads_are : (xs : List ℕ) → length xs ≡ 16 → Each1 (λ x. x < 256) xs → AreQuads xs (quads xs)
quads_are xs long small k h =
    let wide = half_at (pairs xs) k refl (pairs_fit xs) h in
    let first = pair_from xs (2 * k) (4 * k) (4 * k + 1) long small (omega arith) (omega arith) (omega arith) in
    let second =
    pair_from xs (2 * k + 1) (4 * k + 2) (4 * k + 3) long small (omega arith) (omega arith) (omega arith) in
    let a : get_or xs (4 * k) 0 < 256 = Each1-get_or (λ x. x < 256) xs (4 * k) 0 (omega (arith, long)) small in
    let b : get_or xs (4 * k + 1) 0 < 256 = Each1-get_or (λ x. x < 256) xs (4 * k + 1) 0 (omega (arith, long)) small in
    let c : get_or xs (4 * k + 2) 0 < 256 = Each1-get_or (λ x. x < 256) xs (4 * k + 2) 0 (omega (arith, long)) small in
    let d : get_or xs (4 * k + 3) 0 < 256 = Each1-get_or (λ x. x < 256) xs (4 * k + 3) 0 (omega (arith, long)) small in
    get_or-map quad_of (halves (pairs xs)) k 0 0 h
    ∙ omega (arith, wide, first, second, a, b, c, d)

-- ---- units

abbrev pub places : List ℕ
places = 1 ∷ 2 ∷ 6 ∷ 0 ∷ 4 ∷ 5 ∷ 9 ∷ 10 ∷ 14 ∷ 8 ∷ 12 ∷ 13 ∷ 3 ∷ 3 ∷ 3 ∷ 3 ∷ []

abbrev pub bytes_of : List ℕ → List ℕ
bytes_of numbers = digits_l 256 16 (number_l 4294967296 numbers)

abbrev pub picked : List ℕ → List ℕ
picked numbers = pick_l 0 (bytes_of numbers) places

abbrev pub units : List ℕ → List ℕ
units numbers = digits_l 65536 8 (number_l 256 (picked numbers))

abbrev pub AreNumbers : List ℕ → Type 0
AreNumbers numbers = Each1 (λ x. x < 4294967296) numbers

byte_at : (numbers : List ℕ) → AreNumbers numbers → (m r : ℕ) → r < 4 → 4 * m + r < 16
    → get_or (bytes_of numbers) (4 * m + r) 0 ≡ get_or numbers m 0 / 256 ^ r % 256
byte_at numbers small m r h l = get_or_narrower 4294967296 4 256 16 numbers m r refl small h l

byte_lt : (numbers : List ℕ) → AreNumbers numbers → (j : ℕ) → j < 16 → get_or (bytes_of numbers) j 0 < 256
byte_lt numbers small j h =
    let there : j ≡ 4 * (j / 4) + j % 4 = omega arith in
    let is : get_or (bytes_of numbers) j 0 ≡ get_or numbers (j / 4) 0 / 256 ^ (j % 4) % 256 =
    ap (λ (i : ℕ). get_or (bytes_of numbers) i 0) there
    ∙ byte_at numbers small (j / 4) (j % 4) (omega arith) (omega arith) in
    omega (arith, is)

picked_fit : (numbers : List ℕ) → AreNumbers numbers → Each1 (λ x. x < 256) (picked numbers)
picked_fit numbers small =
    let f : (j : ℕ) → j < 16 → get_or (bytes_of numbers) j 0 < 256 = byte_lt numbers small in (
      f 1 (omega arith),
      (
        f 2 (omega arith),
        (
          f 6 (omega arith),
          (
            f 0 (omega arith),
            (
              f 4 (omega arith),
              (
                f 5 (omega
                    arith),
                (
                  f 9 (omega arith),
                  (
                    f 10 (omega arith),
                    (
                      f 14 (omega arith),
                      (
                        f 8 (omega arith),
                        (
                          f 12 (omega arith),
                          (
                            f 13 (omega arith),
                            (
                              f 3 (omega arith),
                              (
                                f 3 (omega arith),
                                (
                                  f 3 (omega arith),
                                  (
                                    f 3 (omega arith),
                                    tt,
                                  ),
                                ),
                              ),
                            ),
                          ),
                        ),
                      ),
                    ),
                  ),
                ),
              ),
            ),
          ),
        ),
      ),
    )

-- a unit has two bytes, the lower one first
unit_at : (numbers : List ℕ) → AreNumbers numbers → (k : ℕ) → k < 8 → get_or (units numbers) k 0
    ≡ get_or (picked numbers) (2 * k) 0 + 256 * (get_or (picked numbers) (2 * k + 1) 0 + 256 * 0)
unit_at numbers small k h = wider_at 256 65536 8 (picked numbers) k refl (picked_fit numbers small) h (omega arith)

-- the units of eight values, made of the bytes of two numbers
three_of : (v0 v1 v2 v3 v4 v5 v6 v7 a b : ℕ) → v0 < 64 → v1 < 64 → v2 < 64 → v3 < 64 → v4 < 64 → v5 < 64 → v6 < 64
    → v7 < 64 → a ≡ ((v0 * 64 + v1) * 64 + v2) * 64 + v3 → b ≡ ((v4 * 64 + v5) * 64 + v6) * 64 + v7
    → (a / 256 % 256 + 256 * (a / 65536 % 256) ≡ v0 * 1024 + v1 * 16 + v2 / 4)
    × (b / 65536 % 256 + 256 * (a % 256) ≡ v2 % 4 * 16384 + v3 * 256 + v4 * 4 + v5 / 16)
    × (b % 256 + 256 * (b / 256 % 256) ≡ v5 % 16 * 4096 + v6 * 64 + v7)
three_of v0 v1 v2 v3 v4 v5 v6 v7 a b l0 l1 l2 l3 l4 l5 l6 l7 e f = (
  omega (arith, e, l0, l1, l2, l3),
  omega (arith, e, f, l0, l1, l2, l3, l4, l5, l6, l7),
  omega (arith, f, l4, l5, l6, l7),
)

-- Each lane is a code unit of the values.
pub units_are : (v n : List ℕ) → length n ≡ 4 → ((i : ℕ) → i < 16 → get_or v i 0 < 64) → AreQuads v n
    → AreUnits v (units n)
units_are v n long few are =
    let small : AreNumbers n = Each1-from_get_or (λ x. x < 4294967296) n 0 (λ i h.
    (let e = are i (omega (arith, long)) in
    omega (
      arith,
      e,
      few (4 * i) (omega (arith, long)),
      few (4 * i + 1) (omega (arith, long)),
      few (4 * i + 2) (omega (arith, long)),
      few (4 * i + 3) (omega (arith, long)),
    ))) in
    let one = three_of (get_or v 0 0) (get_or v 1 0) (get_or v 2 0) (get_or v 3 0) (get_or v 4 0) (get_or v 5 0)
    (get_or v 6 0) (get_or v 7 0) (get_or n 0 0) (get_or n 1 0) (few 0 (omega arith)) (few 1 (omega arith))
    (few 2 (omega arith)) (few 3 (omega arith)) (few 4 (omega arith)) (few 5 (omega arith)) (few 6 (omega arith))
    (few 7 (omega arith)) (are 0 (omega arith)) (are 1 (omega arith)) in
    let two = three_of (get_or v 8 0) (get_or v 9 0) (get_or v 10 0) (get_or v 11 0) (get_or v 12 0) (get_or v 13 0)
    (get_or v 14 0) (get_or v 15 0) (get_or n 2 0) (get_or n 3 0) (few 8 (omega arith)) (few 9 (omega arith))
    (few 10 (omega arith)) (few 11 (omega arith)) (few 12 (omega arith)) (few 13 (omega arith)) (few 14 (omega arith))
    (few 15 (omega arith)) (are 2 (omega arith)) (are 3 (omega arith)) in
    let b = byte_at n small in
    record {
      first = omega (
        arith,
        unit_at n small 0 (omega arith),
        b 0 1 (omega arith) (omega arith),
        b 0 2 (omega arith) (omega arith),
        one.0,
      );
      second = omega (
        arith,
        unit_at n small 1 (omega arith),
        b 1 2 (omega arith) (omega arith),
        b 0 0 (omega arith) (omega arith),
        one.1,
      );
      third = omega (
        arith,
        unit_at n small 2 (omega arith),
        b 1 0 (omega arith) (omega arith),
        b 1 1 (omega arith) (omega arith),
        one.2,
      );
      fourth = omega (
        arith,
        unit_at n small 3 (omega arith),
        b 2 1 (omega arith) (omega arith),
        b 2 2 (omega arith) (omega arith),
        two.0,
      );
      fifth = omega (
        arith,
        unit_at n small 4 (omega arith),
        b 3 2 (omega arith) (omega arith),
        b 2 0 (omega arith) (omega arith),
        two.1,
      );
      sixth = omega (
        arith,
        unit_at n small 5 (omega arith),
        b 3 0 (omega arith) (omega arith),
        b 3 1 (omega arith) (omega arith),
        two.2,
      );
    }
