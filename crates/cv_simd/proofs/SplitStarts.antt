-- Where characters of one and two bytes begin, and what a row of a table finds there.
use Rattle.std.proofs.Common.{◌≡◌, ℕ, ◌+◌, ◌-◌, ◌*◌, ◌/◌, ◌%◌, ◌^◌, ◌<◌, ◌≤◌, Bool, true, false, cond, List, length}
use Rattle.std.proofs.Common.{take, drop, get_or, map, inl, inr, refl, sym, ◌∙◌, ap, subst, arith, zero, suc, add-one}
use Rattle.std.proofs.Common.{w8}
use Rattle.std.specs.Prelude.{replicate}
use Rattle.std.specs.Simd.Lanes.{mask_l, top, zip2}
use Rattle.std.proofs.Math.Dec.{eqb, leb}
use Rattle.std.proofs.lemmas.Bool.{cases_Bool, cases_lt}
use Rattle.std.proofs.lemmas.List.{length-map, get_or-map}
use Rattle.std.proofs.lemmas.Nat.{shr-shr}
use Rattle.std.proofs.lemmas.Simd.{tops_compared, zip2_splat_left, mask_l-mod, length-chunk, get_or-chunk, bit_mask_l}
use Rattle.std.proofs.lemmas.Simd.{swz_l, get_or-swz_l}
use Rattle.cv_simd.specs.Splits.{leads, start_of, second_byte, AreSplit, AreMarked}
use Rattle.cv_simd.proofs.SplitRows.{bit, begin_of, row_of, row_at}

-- ---- places

-- the next character begins after the one or two bytes of one
pub start_next : (text : List ℕ) (at k : ℕ)
    → start_of text at (k + 1) ≡ start_of text at k + (1 + cond (leads (get_or text (start_of text at k) 0)) 1 0)
unfolding start_of
start_next text at k = rw add-one refl

-- the first begins where all of them begin
pub start_first : (text : List ℕ) (at : ℕ) → start_of text at 0 ≡ at
unfolding start_of
start_first text at = refl

-- one more byte, or none, is at most one
pub one_or_two : (b : Bool) → cond b 1 0 ≤ 1
one_or_two true = omega arith
one_or_two false = omega arith

-- each has two bytes at most
pub start_le : (text : List ℕ) (at k : ℕ) → start_of text at k ≤ at + 2 * k
unfolding start_of
start_le text at zero = omega arith
start_le text at (suc k) = omega (arith, start_le text at k, one_or_two (leads (get_or text (start_of text at k) 0)))

-- after some characters others begin
pub start_after : (text : List ℕ) (at next j k : ℕ) → next ≡ start_of text at j
    → start_of text next k ≡ start_of text at (j + k)
unfolding start_of
start_after text at next j zero e = e ∙ ap (start_of text at) (omega arith)
start_after text at next j (suc k) e =
    let on : suc (j + k) ≡ j + suc k = omega arith in
    ap (λ (p : ℕ). p + (1 + cond (leads (get_or text p 0)) 1 0)) (start_after text at next j k e)
    ∙ ap (start_of text at) on

-- ---- marks

bit_le : (m p : ℕ) → bit m p ≤ 1
bit_le m p = omega arith

begin_le : (m k : ℕ) → begin_of m k ≤ 2 * k
begin_le m zero = omega arith
begin_le m (suc k) = omega (arith, begin_le m k, bit_le m (begin_of m k))

-- the marks of eight bytes tell where four characters begin
pub begins_at : (text : List ℕ) (at marks k : ℕ) → AreMarked text at 8 marks → k ≤ 4
    → start_of text at k ≡ at + begin_of marks k
unfolding start_of
begins_at text at marks zero marked h = omega arith
begins_at text at marks (suc k) marked h =
    let b = begin_of marks k in
    let before : start_of text at k ≡ at + b = begins_at text at marks k marked (omega arith) in
    let small : b < 8 = omega (arith, begin_le marks k) in
    let here : bit marks b ≡ cond (leads (get_or text (start_of text at k) 0)) 1 0 = rw before (marked b small) in
    omega (arith, before, here)

-- the bits of bytes, as vectors compute them
abbrev marks_as : List ℕ → ℕ
marks_as xs = mask_l (map (top 7) (zip2 (λ a b. cond (leb a b) 255 0) (replicate 16 128) xs)) % 2 ^ 64

marks_are : (xs : List ℕ) → length xs ≡ 16 → marks_as xs ≡ mask_l (map leads xs)
marks_are xs long = ap (λ ms. mask_l ms % 2 ^ 64) (tops_compared w8 leb (replicate 16 128) xs
    ∙ zip2_splat_left leb 128 16 xs long) ∙ mask_l-mod (map leads xs) 64 (omega (arith, length-map xs leads, long))

-- sixteen bytes are marked
pub marked_by : (text : List ℕ) (at : ℕ) → at + 16 ≤ length text
    → AreMarked text at 16 (marks_as (take 16 (drop at text)))
marked_by text at room i h =
    let xs : List ℕ = take 16 (drop at text) in
    let long : length xs ≡ 16 = length-chunk at 16 text room in
    rw (marks_are xs long) (bit_mask_l (map leads xs) i ∙ ap (λ (b : Bool). cond b 1 0)
    (get_or-map leads xs i 0 false (omega (arith, long)) ∙ ap leads (get_or-chunk at 16 text i 0 h)))

-- the lowest eight bits of a number
low_bits : (m i : ℕ) → i < 8 → bit (m % 256) i ≡ bit m i
low_bits m zero h = omega arith
low_bits m (suc zero) h = omega arith
low_bits m (suc (suc zero)) h = omega arith
low_bits m (suc (suc (suc zero))) h = omega arith
low_bits m (suc (suc (suc (suc zero)))) h = omega arith
low_bits m (suc (suc (suc (suc (suc zero))))) h = omega arith
low_bits m (suc (suc (suc (suc (suc (suc zero)))))) h = omega arith
low_bits m (suc (suc (suc (suc (suc (suc (suc zero))))))) h = omega arith
low_bits m (suc (suc (suc (suc (suc (suc (suc (suc i)))))))) h = absurd (omega arith)

-- the first eight of sixteen bytes are marked by the lowest bits
pub marked_low : (text : List ℕ) (at marks : ℕ) → AreMarked text at 16 marks → AreMarked text at 8 (marks % 256)
marked_low text at marks marked i h = low_bits marks i h ∙ marked i (omega arith)

-- eight bytes after others are marked by the bits after those of the others
pub marked_behind : (text : List ℕ) (at marks size : ℕ) → size ≤ 8 → AreMarked text at 16 marks
    → AreMarked text (at + size) 8 (marks / 2 ^ size % 256)
marked_behind text at marks size few marked i h =
    let there : at + (size + i) ≡ at + size + i = omega arith in
    low_bits (marks / 2 ^ size) i h ∙ ap (λ (n : ℕ). n % 2) (shr-shr marks size i) ∙ subst
    (λ (p : ℕ). bit marks (size + i) ≡ cond (leads (get_or text p 0)) 1 0) there (marked (size + i) (omega arith))

-- ---- what a row finds

-- an index below sixteen finds a byte
found_at : (xs ps : List ℕ) (m : ℕ) → m < 16 → length ps ≡ 16 → get_or ps m 0 < 16
    → get_or (swz_l w8 16 xs 0 ps) m 0 ≡ get_or xs (get_or ps m 0) 0
found_at xs ps m h long low =
    let small : leb 128 (get_or ps m 0) ≡ false = grind arith in
    let place : 16 * ((0 + m) / 16) + get_or ps m 0 ≡ get_or ps m 0 = omega arith in
    get_or-swz_l w8 16 xs 0 ps m (omega arith) ∙ ap (λ (b : Bool).
    cond b 0 (get_or xs (16 * ((0 + m) / 16) + get_or ps m 0) 0)) small ∙ ap (λ (k : ℕ). get_or xs k 0) place

-- index 128 gives a 0
none_at : (xs ps : List ℕ) (m : ℕ) → m < 16 → length ps ≡ 16 → get_or ps m 0 ≡ 128
    → get_or (swz_l w8 16 xs 0 ps) m 0 ≡ 0
none_at xs ps m h long is =
    let large : leb 128 (get_or ps m 0) ≡ true = rw is refl in
    get_or-swz_l w8 16 xs 0 ps m (omega arith)
    ∙ ap (λ (b : Bool). cond b 0 (get_or xs (16 * ((0 + m) / 16) + get_or ps m 0) 0)) large

second_found : (text : List ℕ) (at marks k : ℕ) → at + 16 ≤ length text → marks < 256 → AreMarked text at 8 marks
    → k < 4 → (b : Bool) → leads (get_or text (start_of text at k) 0) ≡ b → get_or (swz_l w8 16
    (take 16 (drop at text)) 0 (row_of marks)) (2 * k + 1) 0 ≡ cond b (get_or text (start_of text at k + 1) 0) 0
second_found text at marks k room few marked h b is =
    let xs : List ℕ = take 16 (drop at text) in
    let r = row_at marks few in
    let p = begin_of marks k in
    let low : p < 8 = omega (arith, begin_le marks k) in
    let before : start_of text at k ≡ at + p = begins_at text at marks k marked (omega arith) in
    let here : bit marks p ≡ cond b 1 0 = marked p low
    ∙ ap (λ (x : Bool). cond x 1 0) (subst (λ (q : ℕ). leads (get_or text q 0) ≡ b) before is) in
    elim (cases_Bool b) [
      | inl first ↦ (
          let set : bit marks p ≡ 1 = here ∙ ap (λ (x : Bool). cond x 1 0) first in
          let place : get_or (row_of marks) (2 * k + 1) 0 ≡ p + 1 = r.second k h
          ∙ ap (λ (n : ℕ). cond (eqb n 1) (p + 1) 128) set in
          let next : at + (p + 1) ≡ start_of text at k + 1 = omega arith in
          rw first (found_at xs (row_of marks) (2 * k + 1) (omega arith) r.long (omega arith) ∙ ap (λ (q : ℕ). get_or xs
          q 0) place ∙ get_or-chunk at 16 text (p + 1) 0 (omega arith) ∙ ap (λ (q : ℕ). get_or text q 0) next))
      | inr single ↦ (
          let clear : bit marks p ≡ 0 = here ∙ ap (λ (x : Bool). cond x 1 0) single in
          let place : get_or (row_of marks) (2 * k + 1) 0 ≡ 128 = r.second k h
          ∙ ap (λ (n : ℕ). cond (eqb n 1) (p + 1) 128) clear in
          rw single (none_at xs (row_of marks) (2 * k + 1) (omega arith) r.long place))
    ]

-- four characters are split by the row for their mask
pub split_by : (text : List ℕ) (at marks : ℕ) → at + 16 ≤ length text → marks < 256 → AreMarked text at 8 marks
    → AreSplit text at 4 (swz_l w8 16 (take 16 (drop at text)) 0 (row_of marks))
split_by text at marks room few marked =
    let xs : List ℕ = take 16 (drop at text) in
    let r = row_at marks few in
    record {
      first = λ k h. (
          let p = begin_of marks k in
          let low : p < 8 = omega (arith, begin_le marks k) in
          let before : start_of text at k ≡ at + p = begins_at text at marks k marked (omega arith) in
          let place : get_or (row_of marks) (2 * k) 0 ≡ p = r.first k h in
          found_at xs (row_of marks) (2 * k) (omega arith) r.long (omega arith) ∙ ap (λ (q : ℕ). get_or xs q 0) place
          ∙ get_or-chunk at 16 text p 0 (omega arith) ∙ ap (λ (q : ℕ). get_or text q 0) (sym before));
      second = λ k h. second_found text at marks k room few marked h (leads (get_or text (start_of text at k) 0)) refl;
    }

-- the size in the table is that of four characters
pub size_by : (text : List ℕ) (at marks size : ℕ) → marks < 256 → AreMarked text at 8 marks → size ≡ begin_of marks 4
    → at + size ≡ start_of text at 4
size_by text at marks size few marked is =
    sym (begins_at text at marks 4 marked (omega arith) ∙ ap (λ (n : ℕ). at + n) (sym is))

-- ---- two times four

-- four characters and the four after them
pub split_joined : (text : List ℕ) (at next : ℕ) (first second pairs : List ℕ) → next ≡ start_of text at 4
    → AreSplit text at 4 first → AreSplit text next 4 second → ((k : ℕ) → k < 8 → get_or pairs k 0 ≡ get_or first k 0)
    → ((k : ℕ) → k < 8 → get_or pairs (8 + k) 0 ≡ get_or second k 0) → AreSplit text at 8 pairs
split_joined text at next first second pairs e a b low high = record {
  first = λ k h. elim (cases_lt k 4) [
    | inl less ↦ low (2 * k) (omega arith) ∙ a.first k less
    | inr more ↦ (
        let j = k - 4 in
        let is : 8 + 2 * j ≡ 2 * k = omega arith in
        let place : start_of text next j ≡ start_of text at k = start_after text at next 4 j e
        ∙ ap (start_of text at) (omega arith) in
        ap (λ (i : ℕ). get_or pairs i 0) (sym is) ∙ high (2 * j) (omega arith) ∙ b.first j (omega arith)
        ∙ ap (λ (q : ℕ). get_or text q 0) place)
  ];
  second = λ k h. elim (cases_lt k 4) [
    | inl less ↦ low (2 * k + 1) (omega arith) ∙ a.second k less
    | inr more ↦ (
        let j = k - 4 in
        let is : 8 + (2 * j + 1) ≡ 2 * k + 1 = omega arith in
        let place : start_of text next j ≡ start_of text at k = start_after text at next 4 j e
        ∙ ap (start_of text at) (omega arith) in
        ap (λ (i : ℕ). get_or pairs i 0) (sym is) ∙ high (2 * j + 1) (omega arith) ∙ b.second j (omega arith)
        ∙ ap (second_byte text) place)
  ];
}
