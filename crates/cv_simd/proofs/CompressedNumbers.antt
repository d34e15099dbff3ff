-- Those of eight numbers whose bit is set, which a table finds among the bytes of all.
use Rattle.std.proofs.Common.{◌≡◌, ℕ, ◌+◌, ◌*◌, ◌/◌, ◌%◌, ◌^◌, ◌<◌, Bool, true, cond, ◌&&◌, List, [], ◌∷◌, ◌++◌}
use Rattle.std.proofs.Common.{length, take, drop, get_or, inl, inr, refl, sym, ◌∙◌, ap, ap₂, arith, zero, suc, w8}
use Rattle.std.specs.Prelude.{replicate, count_ones}
use Rattle.std.specs.List.{flat_map}
use Rattle.std.specs.Simd.Lanes.{Each1, number_l, digits_l}
use Rattle.std.proofs.Math.Dec.{eqb}
use Rattle.std.proofs.lemmas.Bool.{cases_Bool, agree_below_at, and_parts, eqb-true}
use Rattle.std.proofs.lemmas.List.{get_or-map, take-map}
use Rattle.std.proofs.lemmas.Simd.{Each1-get_or, swz_l, SwzOk, SwzOk-from_below, get_or_narrower}
use Rattle.cv_simd.specs.Compressed.{kept, IsOneOf}
use Rattle.cv_simd.proofs.TableRows.{same, same_is, all_below, below_is, next_at, at_all, looked_up}
use Rattle.cv_simd.specs.declared.number_indices.TheConstants.{NUMBER_INDICES}

-- ---- the table

-- the indexes of the bits of a number that are set
abbrev set_bits : ℕ → ℕ → ℕ → List ℕ
set_bits zero m i = []
set_bits (suc n) m i = cond (eqb (m % 2) 1) (i ∷ set_bits n (m / 2) (suc i)) (set_bits n (m / 2) (suc i))

-- eight indexes, those of the set bits first
abbrev lanes : ℕ → List ℕ
lanes m = take 8 (set_bits 8 m 0 ++ replicate 8 0)

-- the indexes of the two bytes of a number
abbrev two : ℕ → List ℕ
two l = (2 * l) ∷ (2 * l + 1) ∷ []

abbrev row : ℕ → List ℕ
row m = get_or NUMBER_INDICES m []

abbrev is_row : ℕ → Bool
is_row m = same (row m) (flat_map two (lanes m)) && (all_below 8 (lanes m) && (all_below 16 (row m) && (same
    (take (count_ones m) (lanes m)) (set_bits 8 m 0) && (eqb (length (lanes m)) 8 && eqb (length (row m)) 16))))

rows_are : (m : ℕ) → m < 256 → is_row m ≡ true
unfolding lib.Count.ones
rows_are m h = agree_below_at is_row (λ m. true) 256 m refl h

record IsRow (m : ℕ) : Type 0 where
  pub is : row m ≡ flat_map two (lanes m)
  pub low : Each1 (λ x. x < 8) (lanes m)
  pub below : Each1 (λ x. x < 16) (row m)
  pub front : take (count_ones m) (lanes m) ≡ set_bits 8 m 0
  pub eight : length (lanes m) ≡ 8
  pub sixteen : length (row m) ≡ 16

row_at : (m : ℕ) → m < 256 → IsRow m
row_at m h =
    let a = and_parts (same (row m) (flat_map two (lanes m))) _ (rows_are m h) in
    let b = and_parts (all_below 8 (lanes m)) _ a.1 in
    let c = and_parts (all_below 16 (row m)) _ b.1 in
    let d = and_parts (same (take (count_ones m) (lanes m)) (set_bits 8 m 0)) _ c.1 in
    let e = and_parts (eqb (length (lanes m)) 8) (eqb (length (row m)) 16) d.1 in
    record {
      is = same_is (row m) (flat_map two (lanes m)) a.0;
      low = below_is 8 (lanes m) b.0;
      below = below_is 16 (row m) c.0;
      front = same_is (take (count_ones m) (lanes m)) (set_bits 8 m 0) d.0;
      eight = eqb-true (length (lanes m)) 8 e.0;
      sixteen = eqb-true (length (row m)) 16 e.1;
    }

-- a row can be looked up
pub row_ok : (m : ℕ) → m < 256 → SwzOk w8 16 16 0 (row m)
row_ok m h =
    let r = row_at m h in
    SwzOk-from_below w8 16 1 16 0 (row m) refl (omega (arith, r.sixteen)) r.below

-- ---- what a row finds

-- the numbers at the indexes of the set bits are those that are kept
bits_find : (vs text : List ℕ) (m i : ℕ) → drop i text ≡ vs → at_all text (set_bits (length vs) m i) ≡ kept m vs
bits_find [] text m i e = refl
bits_find (v ∷ vs) text m i e =
    let on : List ℕ = set_bits (length vs) (m / 2) (suc i) in
    let left : List ℕ = kept (m / 2) vs in
    let next = next_at text i v vs e in
    let more : at_all text on ≡ left = bits_find vs text (m / 2) (suc i) next.1 in
    elim (cases_Bool (eqb (m % 2) 1)) [
      | inl h ↦ ap (λ b. at_all text (cond b (i ∷ on) on)) h ∙ rw (next.0, more) refl
          ∙ sym (ap (λ b. cond b (v ∷ left) left) h)
      | inr h ↦ ap (λ b. at_all text (cond b (i ∷ on) on)) h ∙ more ∙ sym (ap (λ b. cond b (v ∷ left) left) h)
    ]

-- the bytes of numbers of two bytes
abbrev bytes : List ℕ → List ℕ
bytes vs = digits_l 256 16 (number_l 65536 vs)

abbrev bytes_of : ℕ → List ℕ
bytes_of v = (v % 256) ∷ (v / 256) ∷ []

one_found : (vs : List ℕ) (l : ℕ) → Each1 (λ x. x < 65536) vs → length vs ≡ 8 → l < 8
    → at_all (bytes vs) (two l) ≡ bytes_of (get_or vs l 0)
one_found vs l small long h =
    let v : ℕ = get_or vs l 0 in
    let fits : v < 65536 = Each1-get_or (λ x. x < 65536) vs l 0 (omega (arith, long)) small in
    let first : get_or (bytes vs) (2 * l + 0) 0 ≡ v / 256 ^ 0 % 256 =
    get_or_narrower 65536 2 256 16 vs l 0 refl small (omega arith) (omega arith) in
    let second : get_or (bytes vs) (2 * l + 1) 0 ≡ v / 256 ^ 1 % 256 =
    get_or_narrower 65536 2 256 16 vs l 1 refl small (omega arith) (omega arith) in
    let place : 2 * l + 0 ≡ 2 * l = omega arith in
    let low : v / 1 % 256 ≡ v % 256 = omega arith in
    let high : v / 256 % 256 ≡ v / 256 = omega (arith, fits) in
    ap₂ (λ (a b : ℕ). a ∷ b ∷ []) (ap (λ i. get_or (bytes vs) i 0) (sym place) ∙ first ∙ low) (second ∙ high)

all_found : (vs ls : List ℕ) → Each1 (λ x. x < 65536) vs → length vs ≡ 8 → Each1 (λ x. x < 8) ls
    → at_all (bytes vs) (flat_map two ls) ≡ flat_map (λ l. bytes_of (get_or vs l 0)) ls
all_found vs [] small long low = refl
all_found vs (l ∷ ls) small long low =
    ap₂ (λ (a b : List ℕ). a ++ b) (one_found vs l small long low.0) (all_found vs ls small long low.1)

joined : (vs ls : List ℕ) → Each1 (λ x. x < 65536) vs → length vs ≡ 8 → Each1 (λ x. x < 8) ls
    → digits_l 65536 (length ls) (number_l 256 (flat_map (λ l. bytes_of (get_or vs l 0)) ls)) ≡ at_all vs ls
joined vs [] small long low = refl
joined vs (l ∷ ls) small long low =
    let v : ℕ = get_or vs l 0 in
    let fits : v < 65536 = Each1-get_or (λ x. x < 65536) vs l 0 (omega (arith, long, low.0)) small in
    let rest : ℕ = number_l 256 (flat_map (λ l. bytes_of (get_or vs l 0)) ls) in
    let here : (v % 256 + 256 * (v / 256 + 256 * rest)) % 65536 ≡ v = omega (arith, fits) in
    let left : (v % 256 + 256 * (v / 256 + 256 * rest)) / 65536 ≡ rest = omega (arith, fits) in
    ap₂ (λ (a : ℕ) (b : List ℕ). a ∷ b) here (ap (digits_l 65536 (length ls)) left ∙ joined vs ls small long low.1)

-- the numbers that a row finds are those at its indexes
packed_are : (vs : List ℕ) (m : ℕ) → m < 256 → Each1 (λ x. x < 65536) vs → length vs ≡ 8
    → digits_l 65536 8 (number_l 256 (swz_l w8 16 (bytes vs) 0 (row m))) ≡ at_all vs (lanes m)
packed_are vs m h small long =
    let r = row_at m h in
    ap (λ l. digits_l 65536 8 (number_l 256 l)) (looked_up (bytes vs) (row m) r.sixteen r.below
    ∙ ap (at_all (bytes vs)) r.is ∙ all_found vs (lanes m) small long r.low) ∙ ap (λ n. digits_l 65536 n (number_l 256
    (flat_map (λ l. bytes_of (get_or vs l 0)) (lanes m)))) (sym r.eight) ∙ joined vs (lanes m) small long r.low

-- those that are kept come first
pub kept_prefix : (vs : List ℕ) (m : ℕ) → m < 256 → Each1 (λ x. x < 65536) vs → length vs ≡ 8
    → take (count_ones m) (digits_l 65536 8 (number_l 256 (swz_l w8 16 (bytes vs) 0 (row m)))) ≡ kept m vs
kept_prefix vs m h small long =
    let r = row_at m h in
    ap (take (count_ones m)) (packed_are vs m h small long) ∙ take-map (λ p. get_or vs p 0) (count_ones m) (lanes m)
    ∙ ap (at_all vs) r.front ∙ ap (λ n. at_all vs (set_bits n m 0)) (sym long) ∙ bits_find vs vs m 0 refl

-- each is one of the eight
pub kept_all : (vs : List ℕ) (m : ℕ) → m < 256 → Each1 (λ x. x < 65536) vs → length vs ≡ 8 → (k : ℕ) → k < 8
    → IsOneOf vs (get_or (digits_l 65536 8 (number_l 256 (swz_l w8 16 (bytes vs) 0 (row m)))) k 0)
kept_all vs m h small long k l =
    let r = row_at m h in
    let lane : ℕ = get_or (lanes m) k 0 in
    let is : get_or (at_all vs (lanes m)) k 0 ≡ get_or vs lane 0 =
    get_or-map (λ p. get_or vs p 0) (lanes m) k 0 0 (omega (arith, r.eight)) in
    let below : lane < 8 = Each1-get_or (λ x. x < 8) (lanes m) k 0 (omega (arith, r.eight)) r.low in
    (lane, omega (arith, long), ap (λ (xs : List ℕ). get_or xs k 0) (packed_are vs m h small long) ∙ is)
