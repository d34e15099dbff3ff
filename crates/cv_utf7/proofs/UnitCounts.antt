-- How many of eight units are written at once, and the units in place of those that are not.
use Rattle.std.proofs.Common.{◌≡◌, ℕ, zero, suc, ◌+◌, ◌-◌, ◌%◌, ◌^◌, ◌<◌, ◌≤◌, Bool, true, false, cond, List}
use Rattle.std.proofs.Common.{◌∷◌, ◌++◌, length, take, drop, get_or, map, replicate, refl, sym, ap, subst, ◌∙◌, arith}
use Rattle.std.proofs.Common.{w16}
use Rattle.std.proofs.Common.{w64, Fits, inl, inr, bit_or, length-take, length-drop, get_or-drop, get_or-take}
use Rattle.std.specs.Prelude.{min}
use Rattle.std.specs.Int.{bit_at, trailing_zeros}
use Rattle.std.specs.Simd.Lanes.{Each1, mask_l, top, zip2}
use Rattle.std.proofs.Math.Dec.{leb}
use Rattle.std.proofs.lemmas.Bool.{leb-false, cases_lt}
use Rattle.std.proofs.lemmas.List.{get_or-map, length-map, ext_get_or}
use Rattle.std.proofs.Math.Seq.{take-append-add}
use Rattle.std.proofs.lemmas.Nat.Bits.{bit_at-zero, bit_at-trailing_zeros, bit_at_or, bit_at-pow_same, bit_at-pow_other}
use Rattle.std.proofs.lemmas.Nat.Bits.{bit_at-lt}
use Rattle.std.proofs.lemmas.Nat.{or_lt}
use Rattle.std.proofs.lemmas.Simd.{tops_compared, zip2_splat, zip2_splat_left, mask_l-mod, bit_mask_l, Each1-get_or}
use Rattle.cv_utf7.specs.Private.Groups.{IsLong, AreUnits, IsGroup}
use Rattle.cv_utf7.specs.Sets.{is_direct}
use Rattle.cv_utf7.proofs.SetMembers.{written_lt}

-- the bits of the units that end a run
abbrev above : List ℕ → List ℕ
above units = zip2 (λ a b. (a + (65536 - b)) % 65536) units (replicate 8 128)

abbrev pub ends : List ℕ → ℕ
ends units =
    mask_l (map (top 15) (zip2 (λ a b. cond (leb a b) 0xffff 0) (replicate 8 65407) (above units))) % 2 ^ 64

abbrev less : ℕ → ℕ
less u = (u + (65536 - 128)) % 65536

ends_are : (units : List ℕ) → length units ≡ 8 → ends units ≡ mask_l (map (leb 65407) (map less units))
ends_are units long =
    let lanes : above units ≡ map less units = zip2_splat (λ a b. (a + (65536 - b)) % 65536) units 8 128 long in
    let size : length (map less units) ≡ 8 = length-map units less ∙ long in
    ap (λ (l : List ℕ). mask_l (map (top 15) (zip2 (λ a b. cond (leb a b) 0xffff 0) (replicate 8 65407) l)) % 2 ^ 64)
    lanes ∙ ap (λ ms. mask_l ms % 2 ^ 64) (tops_compared w16 leb (replicate 8 65407) (map less units)
    ∙ zip2_splat_left leb 65407 8 (map less units) size)
    ∙ mask_l-mod (map (leb 65407) (map less units)) 64 (omega (arith, length-map (map less units) (leb 65407), size))

unset : (b : Bool) → cond {A = ℕ} b 1 0 ≡ 0 → b ≡ false
unset true e = absurd (omega arith)
unset false e = refl

long_unit : (u : ℕ) → u < 65536 → less u < 65407 → IsLong u
long_unit u h l = (omega arith, omega arith)

-- a unit whose bit is clear does not end a run
long_at : (units : List ℕ) (k : ℕ) → length units ≡ 8 → k < 8 → get_or units k 0 < 65536
    → bit_at (ends units) k ≡ 0 → IsLong (get_or units k 0)
long_at units k long h small clear =
    let size : length (map less units) ≡ 8 = length-map units less ∙ long in
    let bit : cond {A = ℕ} (get_or (map (leb 65407) (map less units)) k false) 1 0 ≡ 0 =
    sym (bit_mask_l (map (leb 65407) (map less units)) k) ∙ ap (λ m. bit_at m k) (sym (ends_are units long)) ∙ clear in
    let lane : get_or (map (leb 65407) (map less units)) k false ≡ leb 65407 (get_or (map less units) k 0) =
    get_or-map (leb 65407) (map less units) k 0 false (omega (arith, size)) in
    let value : get_or (map less units) k 0 ≡ less (get_or units k 0) =
    get_or-map less units k 0 0 (omega (arith, long)) in
    let under : get_or (map less units) k 0 < 65407 = leb-false 65407 (get_or (map less units) k 0)
    (sym lane ∙ unset _ bit) in
    long_unit (get_or units k 0) small (subst (λ (n : ℕ). n < 65407) value under)

-- bit 6 is set, and those below it stay
six_set : (m : ℕ) → bit_at (bit_or m 64) 6 ≡ 1
six_set m = omega (arith, bit_at_or m 64 6, bit_at-pow_same 6, bit_at-lt m 6)

others_stay : (m k : ℕ) → k < 6 → bit_at (bit_or m 64) k ≡ bit_at m k
others_stay m k l = omega (arith, bit_at_or m 64 k, bit_at-pow_other 6 k (λ e. omega (arith, e)))

some_set : (m : ℕ) → bit_or m 64 ≡ 0 → ⊥
some_set m e = omega (arith, six_set m, ap (λ n. bit_at n 6) e, bit_at-zero 6)

lowest : (m : ℕ) → m < 2 ^ 64 → (bit_at (bit_or m 64) (trailing_zeros w64 (bit_or m 64)) ≡ 1)
    × ((i : ℕ) → i < trailing_zeros w64 (bit_or m 64) → bit_at (bit_or m 64) i ≡ 0)
lowest m h =
    let found = bit_at-trailing_zeros w64 (bit_or m 64) (omega (arith, some_set m))
    (or_lt 64 m 64 h (omega arith)) in
    (found.1, found.2)

-- at most six units are counted
pub count_few : (m : ℕ) → m < 2 ^ 64 → trailing_zeros w64 (bit_or m 64) ≤ 6
count_few m h = elim (cases_lt 6 (trailing_zeros w64 (bit_or m 64))) [
  | inl l ↦ absurd (omega (arith, six_set m, (lowest m h).1 6 l))
  | inr l ↦ l
]

-- each unit that is counted is written at once
pub count_long : (units : List ℕ) (k : ℕ) → length units ≡ 8 → Each1 (Fits w16) units
    → k < trailing_zeros w64 (bit_or (ends units) 64) → IsLong (get_or units k 0)
count_long units k long fits l =
    let h : ends units < 2 ^ 64 = omega arith in
    let few : k < 6 = omega (arith, count_few (ends units) h, l) in
    let small : get_or units k 0 < 65536 = (Each1-get_or (Fits w16) units k 0 (omega (arith, long, few)) fits).fits in
    long_at units k long (omega (arith, few)) small
    (sym (others_stay (ends units) k few) ∙ (lowest (ends units) h).1 k l)

abbrev zeros : ℕ → List ℕ
zeros n = replicate n 0

take_zeros : (j k : ℕ) → take j (zeros (j + k)) ≡ zeros j
take_zeros zero k = refl
take_zeros (suc j) k = let e : suc j + k ≡ suc (j + k) = omega arith in
    ap (λ (n : ℕ). take (suc j) (zeros n)) e ∙ ap (λ (l : List ℕ). 0 ∷ l) (take_zeros j k)

below_limit : (a b : ℕ) → a ≡ min b 0xffff → a < 0xffff → a ≡ b
below_limit a b e h = omega (arith, e, h)

-- the first six lanes of a group
group_units : (characters units first : List ℕ) (n k : ℕ) → length units ≡ 8 → k ≤ 6 → n + 8 ≤ length characters
    → AreUnits characters n units → ((i : ℕ) → i < k → IsLong (get_or units i 0))
    → first ≡ take k units ++ replicate (8 - k) 0
    → take 6 first ≡ take k (drop n characters) ++ replicate (6 - k) 0
group_units characters units first n k long few left are longs is =
    let size : length (take k units) ≡ k = simp length-take (omega (arith, long)) in
    let same : take k units ≡ take k (drop n characters) =
    ext_get_or 0 _ _ (size ∙ sym (simp (length-take, length-drop) (omega arith))) (λ i h.
    let l : i < k = omega (arith, size, h) in
    get_or-take k units i 0 l ∙ below_limit _ _ (are i (omega (arith, l))) (longs i l).1
    ∙ sym (get_or-drop n characters i 0) ∙ sym (get_or-take k (drop n characters) i 0 l)) in
    let six : k + (6 - k) ≡ 6 = omega arith in
    let eight : 8 - k ≡ (6 - k) + 2 = omega arith in
    ap (take 6) is ∙ ap (λ (m : ℕ). take m (take k units ++ replicate (8 - k) 0)) (sym six ∙ ap (λ (m : ℕ). m + (6 - k))
    (sym size)) ∙ take-append-add (take k units) (replicate (8 - k) 0) (6 - k)
    ∙ ap (λ (m : ℕ). take k units ++ take (6 - k) (zeros m)) eight
    ∙ ap (λ (l : List ℕ). take k units ++ l) (take_zeros (6 - k) 2)
    ∙ ap (λ (l : List ℕ). l ++ replicate (6 - k) 0) same

-- the characters that are counted
group_characters : (characters units : List ℕ) (n k : ℕ) → k ≤ 6 → AreUnits characters n units
    → ((i : ℕ) → i < k → IsLong (get_or units i 0)) → (i : ℕ) → i < k → IsLong (get_or characters (n + i) 0)
group_characters characters units n k few are longs i l =
    subst IsLong (below_limit _ _ (are i (omega (arith, l))) (longs i l).1) (longs i l)

-- two characters that are not ASCII are in the group
at_least_two : (characters : List ℕ) (n k : ℕ) → 128 ≤ get_or characters n 0 → 128 ≤ get_or characters (n + 1) 0
    → (k < 6 → is_direct (get_or characters (n + k) 0) ≡ true) → 2 ≤ k
at_least_two characters n zero a b ends =
    let place : n + 0 ≡ n = omega arith in
    absurd (omega (arith, a, ap (λ (i : ℕ). get_or characters i 0) place, written_lt _ (ends (omega arith))))
at_least_two characters n (suc zero) a b ends = absurd (omega (arith, b, written_lt _ (ends (omega arith))))
at_least_two characters n (suc (suc k)) a b ends = omega arith

-- the units that were counted are a group
pub is_group : (characters units first : List ℕ) (n k : ℕ) → length units ≡ 8 → k ≤ 6 → n + 8 ≤ length characters
    → 128 ≤ get_or characters n 0 → 128 ≤ get_or characters (n + 1) 0 → AreUnits characters n units
    → ((i : ℕ) → i < k → IsLong (get_or units i 0)) → first ≡ take k units ++ replicate (8 - k) 0
    → (k < 6 → n + 11 ≤ length characters) → (k < 6 → is_direct (get_or characters (n + k) 0) ≡ true)
    → IsGroup characters n (record { units = first; n = k })
is_group characters units first n k long few left a b are longs is many ends = record {
  few = few;
  some = at_least_two characters n k a b ends;
  left = left;
  long = group_characters characters units n k few are longs;
  are = group_units characters units first n k long few left are longs is;
  many = many;
  ends = ends;
}
