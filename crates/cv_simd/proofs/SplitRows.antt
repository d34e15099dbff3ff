-- Tables of how four characters are split, checked by computing where each of them begins.
use Rattle.std.proofs.Common.{◌≡◌, ℕ, ◌+◌, ◌*◌, ◌/◌, ◌%◌, ◌^◌, ◌<◌, ◌≤◌, Bool, true, cond, ◌&&◌, ◌||◌, T, List, []}
use Rattle.std.proofs.Common.{◌∷◌, length, get_or, refl, sym, subst, arith, zero, suc, w8}
use Rattle.std.specs.Simd.Lanes.{Each1}
use Rattle.std.proofs.Math.Dec.{eqb, leb, ltb}
use Rattle.std.proofs.lemmas.Bool.{agree_below_at, and_parts, eqb-true, leb-true, ltb-true}
use Rattle.std.proofs.lemmas.Simd.{SwzOk, SwzOk-from_Each1}
use mir.Val.{zeroes}
use Rattle.cv_simd.specs.declared.split_tables.TheConstants.{SPLIT_PATTERNS, SPLIT_INDICES, SPLIT_SIZES}

-- one bit of a number
abbrev pub bit : ℕ → ℕ → ℕ
bit marks p = marks / 2 ^ p % 2

-- where a character begins, by which bytes are the first of two
abbrev pub begin_of : ℕ → ℕ → ℕ
begin_of marks zero = 0
begin_of marks (suc k) = begin_of marks k + (1 + bit marks (begin_of marks k))

-- where the second byte of a character is, or 128 if it has none
abbrev pub second_at : ℕ → ℕ → ℕ
second_at marks k = cond (eqb (bit marks (begin_of marks k)) 1) (begin_of marks k + 1) 128

-- what the tables have for some marks
abbrev pub row_of : ℕ → List ℕ
row_of marks = get_or SPLIT_INDICES (get_or SPLIT_PATTERNS marks 0) []

abbrev is_place : ℕ → ℕ → Bool
is_place marks k = eqb (get_or (row_of marks) (2 * k) 0) (begin_of marks k)
    && eqb (get_or (row_of marks) (2 * k + 1) 0) (second_at marks k)

abbrev are_fit : List ℕ → Bool
are_fit [] = true
are_fit (p ∷ ps) = (zeroes 16 w8 p || ltb p 16) && are_fit ps

abbrev is_row : ℕ → Bool
is_row marks = is_place marks 0 && (is_place marks 1 && (is_place marks 2
    && (is_place marks 3 && (eqb (get_or SPLIT_SIZES marks 0) (begin_of marks 4) && (are_fit (row_of marks) && (eqb
    (length (row_of marks)) 16 && (leb (get_or SPLIT_SIZES marks 0) 8 && ltb (get_or SPLIT_PATTERNS marks 0) 16)))))))

rows_are : (marks : ℕ) → marks < 256 → is_row marks ≡ true
rows_are marks h = agree_below_at is_row (λ m. true) 256 marks refl h

fit_each : (ps : List ℕ) → are_fit ps ≡ true → Each1 (λ p. T (zeroes 16 w8 p || ltb p 16)) ps
fit_each [] e = tt
fit_each (p ∷ ps) e =
    let both = and_parts (zeroes 16 w8 p || ltb p 16) (are_fit ps) e in
    (subst T (sym both.0) tt, fit_each ps both.1)

-- What holds of the tables at some marks.
pub record IsRow (marks : ℕ) : Type 0 where
  pub first : (k : ℕ) → k < 4 → get_or (row_of marks) (2 * k) 0 ≡ begin_of marks k
  pub second : (k : ℕ) → k < 4 → get_or (row_of marks) (2 * k + 1) 0 ≡ second_at marks k
  pub size : get_or SPLIT_SIZES marks 0 ≡ begin_of marks 4
  pub fit : Each1 (λ p. T (zeroes 16 w8 p || ltb p 16)) (row_of marks)
  pub long : length (row_of marks) ≡ 16
  pub few : get_or SPLIT_SIZES marks 0 ≤ 8
  pub pattern : get_or SPLIT_PATTERNS marks 0 < 16

-- what holds of four holds of each
each_of_four : (P : ℕ → Type 0) → P 0 → P 1 → P 2 → P 3 → (k : ℕ) → k < 4 → P k
each_of_four P a b c d zero h = a
each_of_four P a b c d (suc zero) h = b
each_of_four P a b c d (suc (suc zero)) h = c
each_of_four P a b c d (suc (suc (suc zero))) h = d
each_of_four P a b c d (suc (suc (suc (suc k)))) h = absurd (omega arith)

place_parts : (marks k : ℕ) → is_place marks k ≡ true
    → (get_or (row_of marks) (2 * k) 0 ≡ begin_of marks k) × (get_or (row_of marks) (2 * k + 1) 0 ≡ second_at marks k)
place_parts marks k e =
    let both = and_parts (eqb (get_or (row_of marks) (2 * k) 0) (begin_of marks k))
    (eqb (get_or (row_of marks) (2 * k + 1) 0) (second_at marks k)) e in (
      eqb-true (get_or (row_of marks) (2 * k) 0) (begin_of marks k) both.0,
      eqb-true (get_or (row_of marks) (2 * k + 1) 0) (second_at marks k) both.1,
    )

-- The tables have a row for any marks of eight bytes.
pub row_at : (marks : ℕ) → marks < 256 → IsRow marks
row_at marks h =
    let a = and_parts (is_place marks 0) _ (rows_are marks h) in
    let b = and_parts (is_place marks 1) _ a.1 in
    let c = and_parts (is_place marks 2) _ b.1 in
    let d = and_parts (is_place marks 3) _ c.1 in
    let e = and_parts (eqb (get_or SPLIT_SIZES marks 0) (begin_of marks 4)) _ d.1 in
    let f = and_parts (are_fit (row_of marks)) _ e.1 in
    let g = and_parts (eqb (length (row_of marks)) 16) _ f.1 in
    let i = and_parts (leb (get_or SPLIT_SIZES marks 0) 8) (ltb (get_or SPLIT_PATTERNS marks 0) 16) g.1 in
    record {
      first = each_of_four (λ k. get_or (row_of marks) (2 * k) 0 ≡ begin_of marks k) (place_parts marks 0 a.0).0
          (place_parts marks 1 b.0).0 (place_parts marks 2 c.0).0 (place_parts marks 3 d.0).0;
      second = each_of_four (λ k. get_or (row_of marks) (2 * k + 1) 0 ≡ second_at marks k) (place_parts marks 0 a.0).1
          (place_parts marks 1 b.0).1 (place_parts marks 2 c.0).1 (place_parts marks 3 d.0).1;
      size = eqb-true (get_or SPLIT_SIZES marks 0) (begin_of marks 4) e.0;
      fit = fit_each (row_of marks) f.0;
      long = eqb-true (length (row_of marks)) 16 g.0;
      few = leb-true (get_or SPLIT_SIZES marks 0) 8 i.0;
      pattern = ltb-true (get_or SPLIT_PATTERNS marks 0) 16 i.1;
    }

-- A row can be looked up.
pub row_ok : (marks : ℕ) → marks < 256 → SwzOk w8 16 16 0 (row_of marks)
row_ok marks h =
    let r = row_at marks h in
    SwzOk-from_Each1 w8 16 1 16 0 (row_of marks) refl (omega (arith, r.long)) r.fit
