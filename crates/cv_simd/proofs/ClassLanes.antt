-- Sets of bytes, lane by lane.
use Rattle.std.proofs.Common.{◌≡◌, ℕ, ◌+◌, ◌-◌, ◌*◌, ◌/◌, ◌%◌, ◌^◌, ◌<◌, ◌≤◌, Bool, true, false, cond, eqb, List, map}
use Rattle.std.proofs.Common.{length, get_or, replicate, bit_and, refl, sym, ap, ◌∙◌, inl, inr, arith, w8, Fits}
use Rattle.std.specs.Prelude.{not}
use Rattle.std.specs.Int.{bit_at}
use Rattle.std.proofs.lemmas.Bool.{cases_lt}
use Rattle.std.proofs.lemmas.List.{length-replicate, get_or-map, length-map, ext_get_or}
use Rattle.std.proofs.lemmas.Nat.{and_le_r}
use Rattle.std.proofs.lemmas.Simd.{Each1-all, Each1-get_or, Each1-weaker, Each1-zip2, Each2-splat, below_from_Fits}
use Rattle.std.proofs.lemmas.Simd.{length-zip2, get_or-zip2, zip2_splat, swz_l, SwzOk, SwzOk-from_below, get_or-chunk}
use Rattle.std.proofs.lemmas.Simd.{length-swz_l, get_or-swz_l_below, bitmask_splat, bit_mask_l}
use lib.Lanes.{zip2, mask_l, top, Each1, chunk}
use Rattle.cv_simd.specs.ByteClasses.{half_bits, is_in}
use Rattle.cv_simd.specs.declared.byte_class.TheConstants.{HALF_BITS}

-- Sixteen bytes.
abbrev pub AreSixteen : List ℕ → Type 0
AreSixteen v = (length v ≡ 16) × Each1 (Fits w8) v

-- a number without its low bits
abbrev pub down : ℕ → ℕ → ℕ
down a b = a / 2 ^ b

-- higher halves are indices of a table of sixteen
pub high_ok : (v : List ℕ) → AreSixteen v → SwzOk w8 16 16 0 (zip2 down v (replicate 16 4))
high_ok v fits =
    let small = Each1-weaker (λ a. a < 256) (λ a. a / 16 < 16) (λ a h. omega arith) v (below_from_Fits w8 v fits.1) in
    SwzOk-from_below w8 16 1 16 0 (zip2 down v (replicate 16 4)) refl
    (omega (arith, fits.0, length-zip2 down v (replicate 16 4) (fits.0 ∙ sym (length-replicate {A = ℕ} 16 4))))
    (Each1-zip2 down (λ j. j < 16) v (replicate 16 4) (Each2-splat (λ a b. down a b < 16) v 16 4 small))

-- lower halves are indices of a table of sixteen
pub low_ok : (v : List ℕ) → AreSixteen v → SwzOk w8 16 16 0 (zip2 bit_and v (replicate 16 15))
low_ok v fits =
    let small = Each1-all (λ a. bit_and a 15 < 16) (λ a. omega (arith, and_le_r a 15)) v in
    SwzOk-from_below w8 16 1 16 0 (zip2 bit_and v (replicate 16 15)) refl
    (omega (arith, fits.0, length-zip2 bit_and v (replicate 16 15) (fits.0 ∙ sym (length-replicate {A = ℕ} 16 15))))
    (Each1-zip2 bit_and (λ j. j < 16) v (replicate 16 15) (Each2-splat (λ a b. bit_and a b < 16) v 16 15 small))

-- a table of sixteen entries, read at indices `g x` below 16
looked_up : (t : List ℕ) (g : ℕ → ℕ) (v js : List ℕ) → AreSixteen v → js ≡ map g v → ((x : ℕ) → x < 256 → g x < 16)
    → swz_l w8 16 t 0 js ≡ map (λ x. get_or t (g x) 0) v
looked_up t g v js fits e small =
    let long : length js ≡ 16 = ap length e ∙ length-map v g ∙ fits.0 in
    ext_get_or 0 _ _ (length-swz_l w8 16 t 0 js ∙ long ∙ sym (length-map v (λ x. get_or t (g x) 0) ∙ fits.0)) (λ i h.
    let lt : i < 16 = omega (arith, long, length-swz_l w8 16 t 0 js) in
    let within : i < length v = omega (arith, fits.0) in
    let is : get_or js i 0 ≡ g (get_or v i 0) = ap (λ l. get_or l i 0) e ∙ get_or-map g v i 0 0 within in
    let byte : get_or v i 0 < 256 = (Each1-get_or (Fits w8) v i 0 within fits.1).fits in
    let below : get_or js i 0 < 16 = omega (arith, is, small (get_or v i 0) byte) in
    let row : 16 * ((0 + i) / 16) + get_or js i 0 ≡ get_or js i 0 = omega (arith, lt) in
    get_or-swz_l_below w8 16 t 0 js i (omega (arith, long)) below
    ∙ ap (λ k. get_or t k 0) (row ∙ is) ∙ sym (get_or-map (λ x. get_or t (g x) 0) v i 0 0 within))

-- the look-up by the lower half
pub lower_half : (set v : List ℕ) → AreSixteen v
    → swz_l w8 16 set 0 (zip2 bit_and v (replicate 16 15)) ≡ map (λ b. get_or set (bit_and b 15) 0) v
lower_half set v fits =
    looked_up set (λ x. bit_and x 15) v _ fits (zip2_splat bit_and v 16 15 fits.0) (λ x h. omega (arith, and_le_r x 15))

-- the table is that of the definition
half_bits_are : HALF_BITS ≡ half_bits
half_bits_are = refl

-- the look-up by the higher half
pub higher_half : (v : List ℕ) → AreSixteen v
    → swz_l w8 16 HALF_BITS 0 (zip2 down v (replicate 16 4)) ≡ map (λ b. get_or half_bits (b / 16) 0) v
higher_half v fits = looked_up HALF_BITS (λ x. x / 16) v _ fits (zip2_splat down v 16 4 fits.0) (λ x h. omega arith)
    ∙ ap (λ (t : List ℕ). map (λ b. get_or t (b / 16) 0) v) half_bits_are

-- one of two numbers, by a test or its opposite
turned : (b : Bool) → cond {A = ℕ} b 1 0 ≡ cond {A = ℕ} (not b) 0 1
turned true = refl
turned false = refl

-- a bit is set if the byte is not in the set
pub in_set : (set v xs ys : List ℕ) → length v ≡ 16 → xs ≡ map (λ b. get_or set (bit_and b 15) 0) v
    → ys ≡ map (λ b. get_or half_bits (b / 16) 0) v
    → (i : ℕ) → i < 16 → bit_at (mask_l (map (top 7) (zip2 (λ a b. cond (eqb a b) (2 ^ 8 - 1) 0) (zip2 bit_and xs ys)
    (replicate 16 0))) % 2 ^ 64) i ≡ cond (is_in set (get_or v i 0)) 0 1
unfolding is_in
in_set set v xs ys long ex ey i l =
    let lx : length xs ≡ 16 = ap length ex ∙ length-map v _ ∙ long in
    let ly : length ys ≡ 16 = ap length ey ∙ length-map v _ ∙ long in
    let lz : length (zip2 bit_and xs ys) ≡ 16 = length-zip2 bit_and xs ys (lx ∙ sym ly) ∙ lx in
    let mask = bitmask_splat w8 eqb (zip2 bit_and xs ys) 16 0 lz (omega arith) in
    let bit : bit_at (mask_l (map (top 7) (zip2 (λ a b. cond (eqb a b) (2 ^ 8 - 1) 0) (zip2 bit_and xs ys)
    (replicate 16 0))) % 2 ^ 64) i ≡ cond {A = ℕ} (get_or (map (λ x. eqb x 0) (zip2 bit_and xs ys)) i false) 1 0 =
    ap (λ m. m / 2 ^ i % 2) mask ∙ bit_mask_l (map (λ x. eqb x 0) (zip2 bit_and xs ys)) i in
    let lane : get_or (map (λ x. eqb x 0) (zip2 bit_and xs ys)) i false ≡ eqb (get_or (zip2 bit_and xs ys) i 0) 0 =
    get_or-map (λ x. eqb x 0) (zip2 bit_and xs ys) i 0 false (omega (arith, lz)) in
    let x_is : get_or xs i 0 ≡ get_or set (bit_and (get_or v i 0) 15) 0 = ap (λ t. get_or t i 0) ex
    ∙ get_or-map _ v i 0 0 (omega (arith, long)) in
    let y_is : get_or ys i 0 ≡ get_or half_bits (get_or v i 0 / 16) 0 = ap (λ t. get_or t i 0) ey
    ∙ get_or-map _ v i 0 0 (omega (arith, long)) in
    let z_is : get_or (zip2 bit_and xs ys) i 0
    ≡ bit_and (get_or set (bit_and (get_or v i 0) 15) 0) (get_or half_bits (get_or v i 0 / 16) 0) =
    get_or-zip2 bit_and xs ys i 0 0 0 (omega (arith, lx)) (omega (arith, ly)) ∙ rw (x_is, y_is) in
    let test : eqb (get_or (zip2 bit_and xs ys) i 0) 0 ≡ eqb (bit_and (get_or set (bit_and (get_or v i 0) 15) 0)
    (get_or half_bits (get_or v i 0 / 16) 0)) 0 = ap (λ z. eqb z 0) z_is in
    bit ∙ ap (λ b. cond b 1 0) (lane ∙ test)
    ∙ turned (eqb (bit_and (get_or set (bit_and (get_or v i 0) 15) 0) (get_or half_bits (get_or v i 0 / 16) 0)) 0)

-- if its bit is clear, the byte is in the set
not_outside : (b : Bool) → cond {A = ℕ} b 0 1 ≡ 0 → b ≡ true
not_outside true e = refl
not_outside false e = absurd (omega arith)

-- if its bit is set, the byte is not in the set
is_outside : (b : Bool) → cond {A = ℕ} b 0 1 ≡ 1 → b ≡ false
is_outside true e = absurd (omega arith)
is_outside false e = refl

-- The bits of sixteen bytes of a text, from an index on.
abbrev pub HasStops : List ℕ → List ℕ → ℕ → ℕ → Type 0
HasStops set bytes base stops = (i : ℕ) → i < 16
    → bit_at stops i ≡ cond {A = ℕ} (is_in set (get_or (chunk base 16 bytes) i 0)) 0 1

-- the bit of a byte of the text
bit_of : (set bytes : List ℕ) (base from stops i : ℕ) → HasStops set bytes base stops → base ≤ from
    → from - base + i < 16 → cond {A = ℕ} (is_in set (get_or bytes (from + i) 0)) 0 1 ≡ bit_at stops (from - base + i)
bit_of set bytes base from stops i has b l =
    let there : base + (from - base + i) ≡ from + i = omega arith in
    let byte : get_or (chunk base 16 bytes) (from - base + i) 0 ≡ get_or bytes (from + i) 0 =
    get_or-chunk base 16 bytes (from - base + i) 0 l ∙ ap (λ (j : ℕ). get_or bytes j 0) there in
    ap (λ (b : ℕ). cond {A = ℕ} (is_in set b) 0 1) (sym byte) ∙ sym (has (from - base + i) l)

-- a byte whose bit is clear is in the set
pub member_at : (set bytes : List ℕ) (base from stops i : ℕ) → HasStops set bytes base stops → base ≤ from
    → from - base + i < 16 → bit_at stops (from - base + i) ≡ 0 → is_in set (get_or bytes (from + i) 0) ≡ true
member_at set bytes base from stops i has b l clear = not_outside _ (bit_of set bytes base from stops i has b l ∙ clear)

-- a byte whose bit is set is not
pub stop_at : (set bytes : List ℕ) (base from stops i : ℕ) → HasStops set bytes base stops → base ≤ from
    → from - base + i < 16 → bit_at stops (from - base + i) ≡ 1 → is_in set (get_or bytes (from + i) 0) ≡ false
stop_at set bytes base from stops i has b l stop = is_outside _ (bit_of set bytes base from stops i has b l ∙ stop)

-- the bytes up to an index are in a set, and so are those of a run from there on
pub members_more : (set bytes : List ℕ) (n run : ℕ) → ((i : ℕ) → i < n → is_in set (get_or bytes i 0) ≡ true) → ((i : ℕ)
    → i < run → is_in set (get_or bytes (n + i) 0) ≡ true) → (i : ℕ) → i < n + run → is_in set (get_or bytes i 0) ≡ true
members_more set bytes n run before more i l = elim (cases_lt i n) [
  | inl m ↦ before i m
  | inr m ↦ (
      let there : n + (i - n) ≡ i = omega arith in
      ap (λ (j : ℕ). is_in set (get_or bytes j 0)) (sym there) ∙ more (i - n) (omega arith))
]
