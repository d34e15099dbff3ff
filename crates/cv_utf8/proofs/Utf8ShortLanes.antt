-- By how much bytes of UTF-8 exceed those of characters of one or two bytes, as vectors compute it.
use Rattle.std.proofs.Common.{◌≡◌, ℕ, ◌+◌, ◌-◌, ◌%◌, ◌^◌, ◌<◌, ◌≤◌, inl, inr, Bool, true, false, not, cond, Fits, List}
use Rattle.std.proofs.Common.{[], ◌∷◌, length, take, drop, get_or, map, refl, sym, ◌∙◌, ap, arith, zero, suc, w8, eqb}
use Rattle.std.proofs.Common.{lit≤}
use Rattle.std.specs.Prelude.{replicate}
use Rattle.std.specs.Int.RustNames.{bit_or}
use Rattle.std.specs.Simd.Lanes.{mask_l, top, zip2, sel_l}
use Rattle.std.proofs.Math.Dec.{ltb}
use Rattle.std.proofs.lemmas.Bool.{not-true, not-false, eqb-true, cases_lt}
use Rattle.std.proofs.lemmas.Nat.{le_or_l, le_or_r}
use Rattle.std.proofs.lemmas.Simd.{bitmask_splat, length-chunk, get_or-chunk, leading_from_mask_l, length-zip2}
use Rattle.std.proofs.lemmas.Simd.{get_or-zip2}
use Rattle.std.proofs.lemmas.List.Sums.{prefix_len_passes}
use Rattle.cv_utf8.specs.Private.Utf8Short.{is_among, is_continuation, IsShortAt}

-- ---- by how much each byte is above

abbrev difference : ℕ → ℕ → ℕ
difference a b = (a + (256 - b)) % 256

abbrev are_below : List ℕ → List ℕ → List Bool
are_below xs ys = map (top 7) (zip2 (λ a b. cond (ltb a b) 0xff 0) xs ys)

-- which lanes have continuation bytes
abbrev seconds : ℕ → List ℕ → List Bool
seconds n ys = are_below (zip2 difference ys (replicate n 0x80)) (replicate n 0x40)

-- the bytes, less the least that may be there
abbrev from_least : ℕ → List ℕ → List ℕ → List ℕ
from_least n xs ys = zip2 difference xs (sel_l (seconds n ys) (replicate n 0xc2) (replicate n 0))

-- the most that may be there, less the least
abbrev most : ℕ → ℕ → List ℕ → List ℕ
most firsts n ys = sel_l (seconds n ys) (replicate n firsts) (replicate n 0xbf)

-- by how much lanes are above others, and 0 if they are not
abbrev pub above_all : List ℕ → List ℕ → List ℕ
above_all xs ys = zip2 difference (sel_l (are_below xs ys) ys xs) ys

abbrev excess_all : ℕ → ℕ → List ℕ → List ℕ → List ℕ
excess_all firsts n xs ys = above_all (from_least n xs ys) (most firsts n ys)

-- the same of one lane

abbrev is_set : Bool → Bool
is_set b = top 7 (cond b 0xff 0)

-- by how much a lane is above another, and 0 if it is not
abbrev pub above : ℕ → ℕ → ℕ
above a b = difference (cond (is_set (ltb a b)) b a) b

-- the excess of a byte, by whether the next is a continuation byte
abbrev excess_if : ℕ → Bool → ℕ → ℕ
excess_if firsts second x =
    above (difference x (cond (is_set second) 0xc2 0)) (cond (is_set second) firsts 0xbf)

excess_at : (firsts n : ℕ) (xs ys : List ℕ) (k : ℕ) → length xs ≡ n → length ys ≡ n → k < n
    → get_or (excess_all firsts n xs ys) k 0 ≡ excess_if firsts (is_continuation (get_or ys k 0)) (get_or xs k 0)
excess_at firsts zero xs ys k e f h = absurd (omega arith)
excess_at firsts (suc n) [] ys k e f h = cc
excess_at firsts (suc n) (x ∷ xs) [] k e f h = cc
excess_at firsts (suc n) (x ∷ xs) (y ∷ ys) zero e f h = refl
excess_at firsts (suc n) (x ∷ xs) (y ∷ ys) (suc k) e f h =
    excess_at firsts n xs ys k (omega arith) (omega arith) (omega arith)

excess_long : (firsts n : ℕ) (xs ys : List ℕ) → length xs ≡ n → length ys ≡ n
    → length (excess_all firsts n xs ys) ≡ n
excess_long firsts zero [] ys e f = refl
excess_long firsts zero (x ∷ xs) ys e f = absurd (omega (arith, e))
excess_long firsts (suc n) [] ys e f = cc
excess_long firsts (suc n) (x ∷ xs) [] e f = cc
excess_long firsts (suc n) (x ∷ xs) (y ∷ ys) e f =
    omega (arith, excess_long firsts n xs ys (omega arith) (omega arith))

-- A byte and the next, of which the first is not above C2 and `firsts` values more.
abbrev IsShortTo : ℕ → Bool → ℕ → Type 0
IsShortTo firsts second x = (is_among 0xc2 0x1e x ≡ is_among 0xc0 0x40 x) × (is_among 0xc2 0x1e x ≡ second)
    × (x ≤ 0xc2 + firsts)

none_over : (a b : ℕ) → a < 256 → b < 256 → above a b ≡ 0 → a ≤ b
none_over a b h l e = grind arith

first_in_range : (x firsts : ℕ) → x < 256 → firsts ≤ 0x1d → difference x 0xc2 ≤ firsts → IsShortTo firsts true x
first_in_range x firsts h few e = (grind arith, grind arith, omega arith)

-- before a continuation byte, only a first byte of two has no excess
first_of_two : (firsts x : ℕ) → firsts ≤ 0x1d → x < 256 → excess_if firsts true x ≡ 0 → IsShortTo firsts true x
first_of_two firsts x few h e =
    first_in_range x firsts h few (none_over (difference x 0xc2) firsts (omega arith) (omega arith) e)

-- before any other byte, only one below C0 has no excess
no_first : (firsts x : ℕ) → x < 256 → excess_if firsts false x ≡ 0 → IsShortTo firsts false x
no_first firsts x h e =
    let low : x ≤ 0xbf = grind arith in
    (grind arith, grind arith, omega arith)

short : (firsts x : ℕ) (second : Bool) → firsts ≤ 0x1d → x < 256 → excess_if firsts second x ≡ 0
    → IsShortTo firsts second x
short firsts x true few h e = first_of_two firsts x few h e
short firsts x false few h e = no_first firsts x h e

-- There are sixteen lanes, one for each byte.
pub excess_size : (firsts : ℕ) (text : List ℕ) (at : ℕ) → at + 17 ≤ length text
    → length (excess_all firsts 16 (take 16 (drop at text)) (take 16 (drop (at + 1) text))) ≡ 16
excess_size firsts text at room = excess_long firsts 16 (take 16 (drop at text)) (take 16 (drop (at + 1) text))
    (length-chunk at 16 text (omega arith)) (length-chunk (at + 1) 16 text (omega arith))

-- A byte whose lane is 0 is that of a character of one or two bytes, and not above C2 and `firsts` values more.
pub excess_short : (firsts : ℕ) (text : List ℕ) (at k : ℕ) → firsts ≤ 0x1d → at + 17 ≤ length text
    → ((i : ℕ) → Fits w8 (get_or text i 0)) → k < 16
    → get_or (excess_all firsts 16 (take 16 (drop at text)) (take 16 (drop (at + 1) text))) k 0 ≡ 0
    → IsShortAt text (at + k) × (get_or text (at + k) 0 ≤ 0xc2 + firsts)
excess_short firsts text at k few room fits h e =
    let xs : List ℕ = take 16 (drop at text) in
    let ys : List ℕ = take 16 (drop (at + 1) text) in
    let x : get_or xs k 0 ≡ get_or text (at + k) 0 = get_or-chunk at 16 text k 0 h in
    let place : at + 1 + k ≡ at + k + 1 = omega arith in
    let y : get_or ys k 0 ≡ get_or text (at + k + 1) 0 = get_or-chunk (at + 1) 16 text k 0 h
    ∙ ap (λ i. get_or text i 0) place in
    let is =
    excess_at firsts 16 xs ys k (length-chunk at 16 text (omega arith)) (length-chunk (at + 1) 16 text (omega arith))
    h in
    let lane : excess_if firsts (is_continuation (get_or ys k 0)) (get_or xs k 0) ≡ 0 = sym is ∙ e in
    let p = short firsts (get_or text (at + k) 0) (is_continuation (get_or text (at + k + 1) 0)) few
    (fits (at + k)).fits (rw (x, y) at lane) in
    ((p.0, p.1), p.2)

-- ---- no byte is above

abbrev differs : ℕ → ℕ → Bool
differs a b = not (eqb a b)

-- the bits of the lanes that are not 0
abbrev bits_above : List ℕ → ℕ
bits_above zs = mask_l (map (top 7) (zip2 (λ a b. cond (differs a b) 0xff 0) zs (replicate 16 0))) % 2 ^ 64

-- If no bit is set, each lane is 0.
pub none_above : (zs : List ℕ) (k : ℕ) → length zs ≡ 16 → eqb (bits_above zs) 0 ≡ true → k < 16 → get_or zs k 0 ≡ 0
none_above zs k long none h =
    let bits : mask_l (map (λ x. differs x 0) zs) ≡ 0 = sym (bitmask_splat w8 differs zs 16 0 long (lit≤ tt))
    ∙ eqb-true _ 0 none in
    let whole = leading_from_mask_l (λ x. differs x 0) zs bits in
    eqb-true (get_or zs k 0) 0
    (not-false _ (not-true _ (prefix_len_passes (λ x. not (differs x 0)) zs k 0 (omega arith))))

-- the OR of two vectors
abbrev either : List ℕ → List ℕ → List ℕ
either xs ys = zip2 bit_or xs ys

either_long : (xs ys : List ℕ) → length xs ≡ 16 → length ys ≡ 16 → length (either xs ys) ≡ 16
either_long xs ys e f = length-zip2 bit_or xs ys (e ∙ sym f) ∙ e

-- a lane is 0 in the OR of two vectors only if it is 0 in both
either_at : (xs ys : List ℕ) (k : ℕ) → length xs ≡ 16 → length ys ≡ 16 → k < 16 → get_or (either xs ys) k 0 ≡ 0
    → (get_or xs k 0 ≡ 0) × (get_or ys k 0 ≡ 0)
either_at xs ys k e f h none =
    let is : get_or (either xs ys) k 0 ≡ bit_or (get_or xs k 0) (get_or ys k 0) =
    get_or-zip2 bit_or xs ys k 0 0 0 (omega arith) (omega arith) in (
      omega (arith, is, none, le_or_l (get_or xs k 0) (get_or ys k 0)),
      omega (arith, is, none, le_or_r (get_or xs k 0) (get_or ys k 0)),
    )

-- sixteen bytes are short if their lanes are 0
abbrev IsExcess : List ℕ → ℕ → List ℕ → Type 0
IsExcess text at zs = (length zs ≡ 16) × ((k : ℕ) → k < 16 → get_or zs k 0 ≡ 0 → IsShortAt text (at + k))

-- If no bit of four vectors is set, the 64 bytes of their lanes are those of characters of one or two bytes.
pub four_short : (text : List ℕ) (at : ℕ) (ws bs cs ds : List ℕ) → IsExcess text at ws → IsExcess text (at + 16) bs
    → IsExcess text (at + 32) cs → IsExcess text (at + 48) ds
    → eqb (bits_above (either (either ws bs) (either cs ds))) 0 ≡ true → (k : ℕ) → k < 64 → IsShortAt text (at + k)
four_short text at ws bs cs ds p q r s none k h =
    let lane : ℕ = k % 16 in
    let within : lane < 16 = omega arith in
    let front = either_long ws bs p.0 q.0 in
    let rest = either_long cs ds r.0 s.0 in
    let all = none_above (either (either ws bs) (either cs ds)) lane
    (either_long (either ws bs) (either cs ds) front rest) none within in
    let both = either_at (either ws bs) (either cs ds) lane front rest within all in
    let early = either_at ws bs lane p.0 q.0 within both.0 in
    let late = either_at cs ds lane r.0 s.0 within both.1 in
    elim (cases_lt k 32) [
      | inl l ↦ elim (cases_lt k 16) [
        | inl m ↦ let place : at + lane ≡ at + k = omega arith in rw place at (p.1 lane within early.0)
        | inr m ↦ let place : at + 16 + lane ≡ at + k = omega arith in rw place at (q.1 lane within early.1)
      ]
      | inr l ↦ elim (cases_lt k 48) [
        | inl m ↦ let place : at + 32 + lane ≡ at + k = omega arith in rw place at (r.1 lane within late.0)
        | inr m ↦ let place : at + 48 + lane ≡ at + k = omega arith in rw place at (s.1 lane within late.1)
      ]
    ]
