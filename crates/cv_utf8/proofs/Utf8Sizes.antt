-- How many bytes units have, and the halves of units.
use Rattle.std.proofs.Common.{◌≡◌, ℕ, ◌+◌, ◌*◌, ◌/◌, ◌%◌, ◌^◌, ◌<◌, Bool, cond, List, [], ◌∷◌, length, length-take}
use Rattle.std.proofs.Common.{length-drop, take, drop, get_or, get_or-take, get_or-drop, map, refl, ◌∙◌, ap, ap₂, subst}
use Rattle.std.proofs.Common.{arith, zero, suc, sym, w8, w16}
use Rattle.std.specs.Prelude.{replicate}
use Rattle.std.specs.Simd.Lanes.{mask_l, top, zip2}
use Rattle.std.proofs.Math.Dec.{leb}
use Rattle.std.proofs.lemmas.List.{length-map}
use Rattle.std.proofs.lemmas.Simd.{mask_l-lt, mask_l-mod, tops_compared, zip2_splat_left}
use Rattle.cv_utf8.specs.Private.TwoByte.{has_two}
use Rattle.cv_utf8.specs.Private.ThreeByte.{has_three, size_bits, AreThreeByte}

-- ---- the first four of eight, and the others

-- the first n of a list
abbrev pub firsts : ℕ → List ℕ → List ℕ
firsts zero vs = []
firsts (suc n) vs = get_or vs 0 0 ∷ firsts n (drop 1 vs)

-- they are the list, if it has as many
pub firsts_are : (n : ℕ) (vs : List ℕ) → length vs ≡ n → firsts n vs ≡ vs
firsts_are zero [] e = refl
firsts_are zero (v ∷ vs) e = absurd (omega arith)
firsts_are (suc n) [] e = absurd (omega arith)
firsts_are (suc n) (v ∷ vs) e = ap (λ (l : List ℕ). v ∷ l) (firsts_are n vs (omega arith))

-- the first four have up to three bytes
pub low_three_byte : (vs : List ℕ) → length vs ≡ 8 → ((k : ℕ) → k < 8 → get_or vs k 0 < 0x10000)
    → AreThreeByte (take 4 vs)
low_three_byte vs long p k h =
    let few : k < 4 = omega (arith, h, length-take 4 vs) in
    rw get_or-take (p k (omega arith))

-- so have the other four
pub high_three_byte : (vs : List ℕ) → length vs ≡ 8 → ((k : ℕ) → k < 8 → get_or vs k 0 < 0x10000)
    → AreThreeByte (drop 4 vs)
high_three_byte vs long p k h =
    let few : k < 4 = omega (arith, h, length-drop 4 vs, long) in
    rw get_or-drop (p (4 + k) (omega arith))

-- the first four are four
pub low_long : (vs : List ℕ) → length vs ≡ 8 → length (take 4 vs) ≡ 4
low_long vs long = omega (arith, length-take 4 vs, long)

-- the others are four
pub high_long : (vs : List ℕ) → length vs ≡ 8 → length (drop 4 vs) ≡ 4
high_long vs long = omega (arith, length-drop 4 vs, long)

-- ---- which of sixteen have two bytes, and three

two_is : (v : ℕ) → leb 0x80 v ≡ has_two v
two_is v = grind arith

three_is : (v : ℕ) → leb 0x800 v ≡ has_three v
three_is v = grind arith

same_map : (f g : ℕ → Bool) → ((v : ℕ) → f v ≡ g v) → (vs : List ℕ) → map f vs ≡ map g vs
same_map f g is [] = refl
same_map f g is (v ∷ vs) = ap₂ (λ (b : Bool) (l : List Bool). b ∷ l) (is v) (same_map f g is vs)

bits_are : (limit : ℕ) (t : ℕ → Bool) → ((v : ℕ) → leb limit v ≡ t v) → (vs : List ℕ) (ms : List Bool) → length vs ≡ 16
    → ms ≡ zip2 leb (replicate 16 limit) vs → mask_l ms % 2 ^ 64 ≡ mask_l (map t vs)
bits_are limit t is vs ms long e = ap (λ l. mask_l l % 2 ^ 64) (e ∙ zip2_splat_left leb limit 16 vs long
    ∙ same_map (leb limit) t is vs) ∙ mask_l-mod (map t vs) 64 (omega (arith, length-map vs t, long))

abbrev at_least : ℕ → List ℕ → ℕ
at_least limit vs = mask_l (map (top 15) (zip2 (λ a b. cond (leb a b) 0xffff 0) (replicate 16 limit) vs)) % 2 ^ 64

-- the bits of units of two bytes or more
pub twos_are : (vs : List ℕ) → length vs ≡ 16 → at_least 0x80 vs ≡ mask_l (map has_two vs)
twos_are vs long = bits_are 0x80 has_two two_is vs _ long (tops_compared w16 leb (replicate 16 0x80) vs)

-- the bits of units of three bytes
pub threes_are : (vs : List ℕ) → length vs ≡ 16 → at_least 0x800 vs ≡ mask_l (map has_three vs)
threes_are vs long = bits_are 0x800 has_three three_is vs _ long (tops_compared w16 leb (replicate 16 0x800) vs)

-- the bits of characters of two bytes, of which all are below 256
pub latin1_twos_are : (vs : List ℕ) → length vs ≡ 16 → mask_l (map (top 7)
    (zip2 (λ a b. cond (leb a b) 255 0) (replicate 16 0x80) vs)) % 2 ^ 64 ≡ mask_l (map has_two vs)
latin1_twos_are vs long = bits_are 0x80 has_two two_is vs _ long (tops_compared w8 leb (replicate 16 0x80) vs)

-- the mask of sixteen units has sixteen bits
pub mask_lt : (t : ℕ → Bool) (vs : List ℕ) → length vs ≡ 16 → mask_l (map t vs) < 65536
mask_lt t vs long =
    let sixteen : length (map t vs) ≡ 16 = length-map vs t ∙ long in
    rw sixteen at (mask_l-lt (map t vs))

-- ---- the masks of the halves of sixteen

mask_halves : (t : ℕ → Bool) (vs : List ℕ) → length vs ≡ 16 → mask_l (map t vs) ≡ mask_l (map t (take 8 vs))
    + 256 * mask_l (map t (drop 8 vs))
mask_halves t vs long = subst (λ (ws : List ℕ). mask_l (map t ws) ≡ mask_l (map t (take 8 ws))
    + 256 * mask_l (map t (drop 8 ws))) (firsts_are 16 vs long) (omega arith)

-- the mask of eight units has eight bits
pub eight_lt : (t : ℕ → Bool) (vs : List ℕ) → length vs ≡ 8 → mask_l (map t vs) < 256
eight_lt t vs long =
    let eight : length (map t vs) ≡ 8 = length-map vs t ∙ long in
    rw eight at (mask_l-lt (map t vs))

-- the mask of the first eight
pub first_mask : (t : ℕ → Bool) (vs part : List ℕ) (m : ℕ) → length vs ≡ 16 → m ≡ mask_l (map t vs) → part ≡ take 8 vs
    → m % 256 ≡ mask_l (map t part)
first_mask t vs part m long is e =
    let eight : length (take 8 vs) ≡ 8 = omega (arith, length-take 8 vs) in
    omega (arith, is, mask_halves t vs long, eight_lt t (take 8 vs) eight)
    ∙ ap (λ (l : List ℕ). mask_l (map t l)) (sym e)

-- the mask of the last eight
pub last_mask : (t : ℕ → Bool) (vs part : List ℕ) (m : ℕ) → length vs ≡ 16 → m ≡ mask_l (map t vs) → part ≡ drop 8 vs
    → m / 256 ≡ mask_l (map t part)
last_mask t vs part m long is e =
    let eight : length (take 8 vs) ≡ 8 = omega (arith, length-take 8 vs) in
    omega (arith, is, mask_halves t vs long, eight_lt t (take 8 vs) eight)
    ∙ ap (λ (l : List ℕ). mask_l (map t l)) (sym e)

-- ---- which of four have two bytes, and three

mask_parts : (t : ℕ → Bool) (vs : List ℕ) → length vs ≡ 8 → mask_l (map t vs) ≡ mask_l (map t (take 4 vs))
    + 16 * mask_l (map t (drop 4 vs))
mask_parts t vs long = subst (λ (ws : List ℕ). mask_l (map t ws) ≡ mask_l (map t (take 4 ws))
    + 16 * mask_l (map t (drop 4 ws))) (firsts_are 8 vs long) (omega arith)

-- the mask of four units has four bits
pub four_lt : (t : ℕ → Bool) (vs : List ℕ) → length vs ≡ 4 → mask_l (map t vs) < 16
four_lt t vs long =
    let four : length (map t vs) ≡ 4 = length-map vs t ∙ long in
    rw four at (mask_l-lt (map t vs))

-- the bits of the first four
pub low_bits : (vs : List ℕ) (two three : ℕ) → length vs ≡ 8 → two ≡ mask_l (map has_two vs)
    → three ≡ mask_l (map has_three vs) → two % 16 + 16 * (three % 16) ≡ size_bits (take 4 vs)
low_bits vs two three long e f =
    let a : two % 16 ≡ mask_l (map has_two (take 4 vs)) = omega (
      arith,
      e,
      mask_parts has_two vs long,
      four_lt has_two (take 4 vs) (low_long vs long),
    ) in
    let b : three % 16 ≡ mask_l (map has_three (take 4 vs)) =
    omega (arith, f, mask_parts has_three vs long, four_lt has_three (take 4 vs) (low_long vs long)) in
    ap₂ (λ (x y : ℕ). x + 16 * y) a b

-- the bits of the others
pub high_bits : (vs : List ℕ) (two three : ℕ) → length vs ≡ 8 → two ≡ mask_l (map has_two vs)
    → three ≡ mask_l (map has_three vs) → two / 16 + 16 * (three / 16) ≡ size_bits (drop 4 vs)
high_bits vs two three long e f =
    let a : two / 16 ≡ mask_l (map has_two (drop 4 vs)) = omega (
      arith,
      e,
      mask_parts has_two vs long,
      four_lt has_two (take 4 vs) (low_long vs long),
    ) in
    let b : three / 16 ≡ mask_l (map has_three (drop 4 vs)) =
    omega (arith, f, mask_parts has_three vs long, four_lt has_three (take 4 vs) (low_long vs long)) in
    ap₂ (λ (x y : ℕ). x + 16 * y) a b
