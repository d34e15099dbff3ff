-- Characters of one or two bytes that are read at once, as vectors compute them.
use Rattle.std.proofs.Common.{◌≡◌, ℕ, ◌+◌, ◌-◌, ◌*◌, ◌%◌, ◌^◌, ◌<◌, ◌≤◌, ◌⊎◌, inl, inr, Bool, true, false, cond, Fits}
use Rattle.std.proofs.Common.{List, [], ◌∷◌, length, drop, get_or, map, refl, sym, ◌∙◌, ap, arith, suc, w8, lit≤}
use Rattle.std.specs.Prelude.{replicate}
use Rattle.std.specs.Simd.Lanes.{mask_l, top, zip2}
use mir.Val.{bool_byte}
use Rattle.std.proofs.Math.Dec.{ltb}
use Rattle.std.proofs.Math.Seq.{drop-cons}
use Rattle.std.proofs.lemmas.Simd.{bitmask_splat, zip2_splat, length-zip2, map-map}
use Rattle.std.proofs.lemmas.Bool.{ltb-true, ltb-false, le-ltb}
use Rattle.std.specs.Int.{bit_at}
use Rattle.cv_block.specs.StatelessForms.{IsFormAt}
use Rattle.cv_utf8.specs.Utf8.{utf8_bytes}
use Rattle.cv_utf8.specs.Private.Utf8Short.{is_among, is_continuation, IsShort, IsShortAt, short_of, short_value}
use Rattle.cv_utf8.specs.Private.Utf8Short.{left_over}
use Rattle.cv_utf8.specs.Private.Utf8Windows.{IsTwoAt, IsLane, AreStarting}

-- ---- which bytes they are

-- the lanes among some numbers are those of the test
pub among_is : (xs : List ℕ) (least many : ℕ) → length xs ≡ 16 → mask_l (map (top 7) (zip2 (λ a b. cond (ltb a b) 255 0)
    (zip2 (λ a b. (a + (256 - b)) % 256) xs (replicate 16 least)) (replicate 16 many))) % 2 ^ 64
    ≡ mask_l (map (is_among least many) xs)
among_is xs least many long =
    let off : List ℕ = zip2 (λ a b. (a + (256 - b)) % 256) xs (replicate 16 least) in
    let is : off ≡ map (λ a. (a + (256 - least)) % 256) xs =
    zip2_splat (λ a b. (a + (256 - b)) % 256) xs 16 least long in
    let size : length off ≡ 16 = length-zip2 (λ a b. (a + (256 - b)) % 256) xs (replicate 16 least) long ∙ long in
    bitmask_splat w8 ltb off 16 many size (lit≤ tt) ∙ ap (λ l. mask_l (map (λ a. ltb a many) l)) is
    ∙ ap mask_l (map-map (λ a. ltb a many) (λ a. (a + (256 - least)) % 256) xs)

-- ---- a byte and the next

abbrev IsBehind : ℕ → ℕ → Type 0
IsBehind x y = (is_continuation x ≡ true) × (is_continuation y ≡ false)

abbrev IsOne : ℕ → ℕ → Type 0
IsOne x y = (is_continuation x ≡ false) × (is_continuation y ≡ false) × (x < 128)

abbrev IsTwo : ℕ → ℕ → Type 0
IsTwo x y = (is_continuation x ≡ false) × (is_continuation y ≡ true) × (0xc2 ≤ x) × (x ≤ 0xdf) × (0x80 ≤ y) × (y ≤ 0xbf)

which : (x y : ℕ) (b c : Bool) → x < 256 → y < 256 → IsShort x y → is_continuation x ≡ b → is_continuation y ≡ c
    → IsBehind x y ⊎ (IsOne x y ⊎ IsTwo x y)
which x y true c h k s e f =
    let in_range : (x + (256 - 0x80)) % 256 < 0x40 = ltb-true _ _ e in
    inl (e, sym s.1 ∙ le-ltb _ _ (omega arith))
which x y false false h k s e f =
    let not_behind : 0x40 ≤ (x + (256 - 0x80)) % 256 = ltb-false _ _ e in
    let not_high : 0x40 ≤ (x + (256 - 0xc0)) % 256 = ltb-false _ _ (sym s.0 ∙ s.1 ∙ f) in
    inr (inl (e, f, omega arith))
which x y false true h k s e f =
    let first : (x + (256 - 0xc2)) % 256 < 0x1e = ltb-true _ _ (s.1 ∙ f) in
    let second : (y + (256 - 0x80)) % 256 < 0x40 = ltb-true _ _ f in
    inr (inr (e, f, omega arith, omega arith, omega arith, omega arith))

abbrev one_if : Bool → ℕ
one_if b = cond b 1 0

abbrev none_if : Bool → ℕ
none_if b = cond b 0 1

-- a text from an offset on is its next two bytes and the rest
pub two : (text : List ℕ) (at : ℕ) → at + 2 ≤ length text
    → drop at text ≡ get_or text at 0 ∷ get_or text (at + 1) 0 ∷ drop (suc (suc at)) text
two text at h =
    let first : at < length text = omega arith in
    let second : suc at < length text = omega arith in
    let e : suc at ≡ at + 1 = omega arith in
    drop-cons text at 0 first ∙ ap (λ (x : List ℕ). get_or text at 0 ∷ x)
    (drop-cons text (suc at) 0 second ∙ ap (λ i. get_or text i 0 ∷ drop (suc (suc at)) text) e)

one_value : (x y : ℕ) → x < 128 → short_of x y ≡ x
one_value x y h = grind arith

one_bytes : (x : ℕ) → x < 128 → utf8_bytes x ≡ x ∷ []
one_bytes x h = grind arith

two_value : (x y : ℕ) → 0xc2 ≤ x → x ≤ 0xdf → short_of x y ≡ (x % 32) * 64 + y % 64
two_value x y h k = grind arith

two_bytes : (x y : ℕ) → 0xc2 ≤ x → x ≤ 0xdf → 0x80 ≤ y → y ≤ 0xbf → utf8_bytes ((x % 32) * 64 + y % 64) ≡ x ∷ y ∷ []
two_bytes x y h k l m = grind arith

-- a byte below 128 spells its character
pub one_spelled : (text : List ℕ) (at v : ℕ) → at + 2 ≤ length text → get_or text at 0 < 128 → v ≡ get_or text at 0
    → IsFormAt utf8_bytes text at v 1
one_spelled text at v room h is =
    rw (is, one_bytes (get_or text at 0) h, two text at room) ((omega arith, λ l. omega arith), (refl, tt), refl)

-- two bytes spell their character
pub two_spelled : (text : List ℕ) (at v : ℕ) → at + 2 ≤ length text
    → IsTwoAt text at → v ≡ (get_or text at 0 % 32) * 64 + get_or text (at + 1) 0 % 64 → IsFormAt utf8_bytes text at v 2
two_spelled text at v room p is =
    let bytes = two_bytes (get_or text at 0) (get_or text (at + 1) 0) p.0 p.1 p.2.0 p.2.1 in
    rw (is, bytes, two text at room) ((omega arith, λ l. omega arith), (refl, (refl, tt)), refl)

-- ---- a lane

lane_of : (text : List ℕ) (at k v s : ℕ) → at + 18 ≤ length text → k < 16 → v ≡ short_value text (at + k) → s ≡ none_if
    (is_continuation (get_or text (at + k) 0)) → IsBehind (get_or text (at + k) 0) (get_or text (at + k + 1) 0) ⊎ (IsOne
    (get_or text (at + k) 0) (get_or text (at + k + 1) 0) ⊎ IsTwo (get_or text (at + k) 0) (get_or text (at + k + 1) 0))
    → IsLane text at v s (k + left_over text (at + k)) (k + 1 + left_over text (at + k + 1))
lane_of text at k v s room l e f (inl q) =
    let now : left_over text (at + k) ≡ 1 = ap one_if q.0 in
    let next : left_over text (at + k + 1) ≡ 0 = ap one_if q.1 in
    inl (f ∙ ap none_if q.0, omega arith)
lane_of text at k v s room l e f (inr (inl q)) =
    let now : left_over text (at + k) ≡ 0 = ap one_if q.0 in
    let next : left_over text (at + k + 1) ≡ 0 = ap one_if q.1 in
    let place : at + (k + left_over text (at + k)) ≡ at + k = omega arith in
    let is = e ∙ one_value (get_or text (at + k) 0) (get_or text (at + k + 1) 0) q.2 in
    inr (f ∙ ap none_if q.0, (1, omega arith, rw place (one_spelled text (at + k) v (omega arith) q.2 is)))
lane_of text at k v s room l e f (inr (inr q)) =
    let now : left_over text (at + k) ≡ 0 = ap one_if q.0 in
    let next : left_over text (at + k + 1) ≡ 1 = ap one_if q.1 in
    let place : at + (k + left_over text (at + k)) ≡ at + k = omega arith in
    let is = e ∙ two_value (get_or text (at + k) 0) (get_or text (at + k + 1) 0) q.2 q.3 in
    inr (
      f ∙ ap none_if q.0,
      (2, omega arith, rw place (two_spelled text (at + k) v (omega arith) (q.2, q.3, (q.4, q.5)) is)),
    )

-- a test as a number
pub byte_is : (b : Bool) → bool_byte b ≡ one_if b
byte_is true = refl
byte_is false = refl

-- how many bytes they have, as the code computes it
pub all_used : (text : List ℕ) (at : ℕ) (b : Bool) → b ≡ is_continuation (get_or text (at + 16) 0)
    → 16 + bool_byte b ≡ 16 + left_over text (at + 16)
all_used text at b e = ap (λ n. 16 + n) (byte_is b ∙ ap one_if e)

-- the characters that begin in the lanes are one after the other
pub short_starting : (text : List ℕ) (at used : ℕ) (vs : List ℕ) (starts_mask : ℕ)
    → at + 18 ≤ length text → ((i : ℕ) → Fits w8 (get_or text i 0)) → is_continuation (get_or text at 0) ≡ false
    → used ≡ 16 + left_over text (at + 16) → ((k : ℕ) → k < 16 → IsShortAt text (at + k))
    → ((k : ℕ) → k < 16 → get_or vs k 0 ≡ short_value text (at + k)) → ((k : ℕ) → k < 16 → bit_at starts_mask k
    ≡ cond (is_continuation (get_or text (at + k) 0)) 0 1) → AreStarting text at vs starts_mask used
short_starting text at used vs starts_mask room fits begins e short are bits =
    let here : at + 0 ≡ at = omega arith in
    let first : left_over text (at + 0) ≡ 0 = rw here (ap one_if begins) in
    record {
      reach = λ k. k + left_over text (at + k);
      begins = omega (arith, first);
      ends = sym e;
      lanes = λ k l.
          let x = get_or text (at + k) 0 in
          let y = get_or text (at + k + 1) 0 in
          let place : at + (k + 1) ≡ at + k + 1 = omega arith in
          rw place (lane_of text at k (get_or vs k 0) (bit_at starts_mask k) room l (are k l) (bits k l) (which x y
          (is_continuation x) (is_continuation y) (fits (at + k)).fits (fits (at + k + 1)).fits (short k l) refl refl));
    }

-- the low byte of a number below 256 is the number
pub latin1_short : (x y : ℕ) → x ≤ 0xc3 → short_of x y % 256 ≡ short_of x y
latin1_short x y h = grind arith
