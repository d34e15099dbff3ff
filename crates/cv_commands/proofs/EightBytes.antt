-- Eight bytes in hexadecimal, as vectors read them.
use Rattle.std.proofs.Common.{◌≡◌, ℕ, zero, suc, ◌+◌, ◌-◌, ◌*◌, ◌/◌, ◌%◌, ◌^◌, ◌<◌, ◌≤◌, Bool, true, false, not, cond}
use Rattle.std.proofs.Common.{◌&&◌, List, [], ◌∷◌, ◌++◌, Option, Some, None, length, take, drop, get_or, map, refl}
use Rattle.std.proofs.Common.{sym, ap, ap₂, subst, ◌∙◌, arith, w8, eqb, drop-cons}
use Rattle.std.specs.Prelude.{replicate, MatchBool}
use Rattle.std.specs.Char.{is_digit, digit_value}
use Rattle.std.specs.Int.RustNames.{bit_or}
use Rattle.std.specs.Option.{option_map}
use Rattle.std.specs.Simd.Lanes.{Each1, chunk, put_chunk, mask_l, number_l, digits_l, top, zip2, sel_l}
use Rattle.std.proofs.Math.Dec.{ltb, leb}
use Rattle.std.proofs.lemmas.Bool.{agree_below_at, and_parts, eqb-true, eqb-false, leb-true, leb-false, ltb-true}
use Rattle.std.proofs.lemmas.Bool.{ltb-false, lt-ltb, le-ltb, not-true, not-false}
use Rattle.std.proofs.lemmas.List.{get_or-map, length-map, take_all}
use Rattle.std.proofs.lemmas.List.Sums.{prefix_len_passes}
use Rattle.std.proofs.lemmas.Simd.{Each1-get_or, get_or_wider, leading_from_mask_l, mask_l-mod, put_chunk_whole}
use Rattle.std.proofs.lemmas.Simd.{tops_compared, zip2_splat_left}
use Rattle.cv_commands.specs.Words.{bytes_by_digits}
use Rattle.cv_commands.specs.Private.Digits.{IsValue}

-- ---- the values of digits

abbrev difference : ℕ → ℕ → ℕ
difference a b = (a + (256 - b)) % 256

abbrev sum : ℕ → ℕ → ℕ
sum a b = (a + b) % 256

abbrev are_below : List ℕ → List ℕ → List Bool
are_below xs ys = map (top 7) (zip2 (λ a b. cond (ltb a b) 0xff 0) xs ys)

abbrev numbers : ℕ → List ℕ → List ℕ
numbers n xs = zip2 difference xs (replicate n 48)

abbrev letters : ℕ → List ℕ → List ℕ
letters n xs = zip2 difference (zip2 bit_or xs (replicate n 32)) (replicate n 97)

abbrev values : ℕ → List ℕ → List ℕ
values n xs =
    sel_l (are_below (numbers n xs) (replicate n 10)) (numbers n xs)
    (sel_l (are_below (letters n xs) (replicate n 6)) (zip2 sum (letters n xs) (replicate n 10)) (replicate n 255))

-- the same of one lane

abbrev is_set : Bool → Bool
is_set b = top 7 (cond b 0xff 0)

abbrev letter : ℕ → ℕ
letter x = difference (bit_or x 32) 97

abbrev value : ℕ → ℕ
value x = cond (is_set (ltb (difference x 48) 10)) (difference x 48)
    (cond (is_set (ltb (letter x) 6)) (sum (letter x) 10) 255)

values_at : (n : ℕ) (xs : List ℕ) (k : ℕ) → length xs ≡ n → k < n → get_or (values n xs) k 0 ≡ value (get_or xs k 0)
values_at zero xs k e h = absurd (omega arith)
values_at (suc n) [] k e h = cc
values_at (suc n) (x ∷ xs) zero e h = refl
values_at (suc n) (x ∷ xs) (suc k) e h = values_at n xs k (omega arith) (omega arith)

abbrev is_right : ℕ → Bool
is_right x = cond (ltb (value x) 16) (is_digit x 16 && eqb (value x) (digit_value x)) (not (is_digit x 16))

rights : (x : ℕ) → x < 256 → is_right x ≡ true
rights x h = agree_below_at is_right (λ _. true) 256 x refl h

right_by : (small digit same : Bool) (x : ℕ) → ltb (value x) 16 ≡ small → is_digit x 16 ≡ digit
    → eqb (value x) (digit_value x) ≡ same → cond small (digit && same) (not digit) ≡ true → IsValue x (value x)
right_by true true true x e f g h =
    record { digit = λ lt. (f, eqb-true _ _ g); none = λ le. absurd (let lt = ltb-true _ _ e in omega (arith, lt, le)) }
right_by true true false x e f g h = absurd cc
right_by true false same x e f g h = absurd cc
right_by false true same x e f g h = absurd cc
right_by false false same x e f g h =
    record { digit = λ lt. absurd (let le = ltb-false _ _ e in omega (arith, lt, le)); none = λ le. f }

-- Each lane is the value of its digit.
pub values_right : (xs : List ℕ) (k : ℕ) → length xs ≡ 16 → Each1 (λ x. x < 256) xs → k < 16
    → IsValue (get_or xs k 0) (get_or (values 16 xs) k 0)
values_right xs k long small h =
    let x : ℕ = get_or xs k 0 in
    let fits : x < 256 = Each1-get_or (λ x. x < 256) xs k 0 (omega (arith, long)) small in
    rw (values_at 16 xs k long h)
    (right_by (ltb (value x) 16) (is_digit x 16) (eqb (value x) (digit_value x)) x refl refl refl (rights x fits))

-- ---- two values become a byte

-- the byte of two values: the low half of w is the first, and gives the byte's high half
abbrev byte_of : ℕ → ℕ
byte_of w = (w % 16 * 16 % 65536 + w / 256 % 16) % 65536

two_from : (xs : List ℕ) (i : ℕ) → i + 1 < length xs → chunk i 2 xs ≡ get_or xs i 0 ∷ get_or xs (i + 1) 0 ∷ []
two_from xs i h =
    let first : drop i xs ≡ get_or xs i 0 ∷ drop (suc i) xs = drop-cons xs i 0 (omega arith) in
    let second : drop (suc i) xs ≡ get_or xs (suc i) 0 ∷ drop (suc (suc i)) xs = drop-cons xs (suc i) 0 (omega arith) in
    let place : suc i ≡ i + 1 = omega arith in
    ap (take 2) first ∙ ap (λ (rest : List ℕ). get_or xs i 0 ∷ take 1 rest) second
    ∙ ap (λ (j : ℕ). get_or xs i 0 ∷ get_or xs j 0 ∷ []) place

joined_by : (w a b : ℕ) → w ≡ a + 256 * (b + 256 * 0) → a < 256 → b < 256 → byte_of w ≡ 16 * (a % 16) + b % 16
joined_by w a b e f g = omega (arith, e, f, g)

-- Each lane of bytes is made of the low halves of its two values.
pub joined_at : (xs : List ℕ) (k : ℕ) → length xs ≡ 16 → Each1 (λ x. x < 256) xs → k < 8 → get_or (map byte_of
    (digits_l 65536 8 (number_l 256 xs))) k 0 ≡ 16 * (get_or xs (2 * k) 0 % 16) + get_or xs (2 * k + 1) 0 % 16
joined_at xs k long small h =
    let wide : get_or (digits_l 65536 8 (number_l 256 xs)) k 0 ≡ number_l 256 (chunk (2 * k) 2 xs) =
    get_or_wider 256 2 65536 8 xs k refl small h in
    let two : chunk (2 * k) 2 xs ≡ get_or xs (2 * k) 0 ∷ get_or xs (2 * k + 1) 0 ∷ [] =
    two_from xs (2 * k) (omega (arith, long, h)) in
    let low : get_or xs (2 * k) 0 < 256 = Each1-get_or (λ x. x < 256) xs (2 * k) 0 (omega (arith, long, h)) small in
    let high : get_or xs (2 * k + 1) 0 < 256 =
    Each1-get_or (λ x. x < 256) xs (2 * k + 1) 0 (omega (arith, long, h)) small in
    get_or-map byte_of (digits_l 65536 8 (number_l 256 xs)) k 0 0 h
    ∙ joined_by _ _ _ (wide ∙ ap (number_l 256) two) low high

-- ---- what sixteen digits mean

none_by : (a b : Bool) (byte : ℕ) (o : Option (List ℕ)) → (a && b) ≡ false
    → cond (a && b) (option_map (λ x. byte ∷ x) o) None ≡ None
none_by a b byte o e = rw e refl

no_rest : (b : Bool) (byte : ℕ) (o : Option (List ℕ)) → o ≡ None → cond b (option_map (λ x. byte ∷ x) o) None ≡ None
no_rest true byte o e = rw e refl
no_rest false byte o e = refl

and_false : (a : Bool) → (a && false) ≡ false
and_false true = refl
and_false false = refl

-- if one is no digit, they mean no bytes
pub none_at : (digits : List ℕ) (k : ℕ) → k < length digits → is_digit (get_or digits k 0) 16 ≡ false
    → bytes_by_digits digits ≡ None
unfolding bytes_by_digits
none_at [] k h e = absurd (omega arith)
none_at (x ∷ []) k h e = refl
none_at (high ∷ low ∷ digits) zero h e = rw e refl
none_at (high ∷ low ∷ digits) (suc zero) h e = rw (e, and_false (is_digit high 16)) refl
none_at (high ∷ low ∷ digits) (suc (suc k)) h e = no_rest (is_digit high 16 && is_digit low 16)
    (16 * digit_value high + digit_value low) (bytes_by_digits digits) (none_at digits k (omega arith) e)

twice : (k : ℕ) → 2 * suc k ≡ suc (suc (2 * k))
twice k = omega arith

after_twice : (k : ℕ) → 2 * suc k + 1 ≡ suc (suc (2 * k + 1))
after_twice k = omega arith

-- if all are digits, they mean the bytes of their pairs
pub all_say : (m : ℕ) (digits bytes : List ℕ) → length digits ≡ 2 * m → length bytes ≡ m → ((k : ℕ) → k < 2 * m
    → is_digit (get_or digits k 0) 16 ≡ true) → ((k : ℕ) → k < m → get_or bytes k 0 ≡ 16 * digit_value
    (get_or digits (2 * k) 0) + digit_value (get_or digits (2 * k + 1) 0)) → bytes_by_digits digits ≡ Some bytes
unfolding bytes_by_digits
all_say zero [] [] e f are is = refl
all_say zero [] (x ∷ bytes) e f are is = absurd (omega (arith, f))
all_say zero (x ∷ digits) bytes e f are is = absurd (omega (arith, e))
all_say (suc m) [] bytes e f are is = absurd (omega (arith, e))
all_say (suc m) (x ∷ []) bytes e f are is = absurd (omega (arith, e))
all_say (suc m) (high ∷ low ∷ digits) [] e f are is = absurd (omega (arith, f))
all_say (suc m) (high ∷ low ∷ digits) (byte ∷ bytes) e f are is =
    let first : is_digit high 16 ≡ true = are 0 (omega arith) in
    let second : is_digit low 16 ≡ true = are 1 (omega arith) in
    let value : byte ≡ 16 * digit_value high + digit_value low = is 0 (omega arith) in
    let rest : bytes_by_digits digits ≡ Some bytes =
    all_say m digits bytes (omega (arith, e)) (omega (arith, f)) (λ k h. are (suc (suc k)) (omega (arith, h)))
    (λ k h. is (suc k) (omega (arith, h)) ∙ ap₂ (λ (i j : ℕ). 16 * digit_value (get_or (high ∷ low ∷ digits) i 0)
    + digit_value (get_or (high ∷ low ∷ digits) j 0)) (twice k) (after_twice k)) in
    rw (first, second, rest, value) refl

-- ---- whether all are digits

abbrev bits_at_least : List ℕ → ℕ
bits_at_least xs = mask_l (map (top 7) (zip2 (λ a b. cond (leb a b) 0xff 0) (replicate 16 16) xs)) % 2 ^ 64

abbrev is_large : ℕ → Bool
is_large x = leb 16 x

bits_are : (xs : List ℕ) → length xs ≡ 16 → bits_at_least xs ≡ mask_l (map is_large xs)
bits_are xs long = ap (λ (bs : List Bool). mask_l bs % 2 ^ 64) (tops_compared w8 leb (replicate 16 16) xs
    ∙ zip2_splat_left leb 16 16 xs long) ∙ mask_l-mod (map is_large xs) 64 (omega (arith, length-map xs is_large, long))

none_large : (xs : List ℕ) (k : ℕ) → mask_l (map is_large xs) ≡ 0 → k < length xs → is_large (get_or xs k 0) ≡ false
none_large xs k none h =
    let whole = leading_from_mask_l is_large xs none in
    not-true _ (prefix_len_passes (λ x. not (is_large x)) xs k 0 (omega (arith, whole, h)))

abbrev HasLarge : List ℕ → Type 0
HasLarge xs = (k : ℕ) × (k < length xs) × (is_large (get_or xs k 0) ≡ true)

large_by : (b : Bool) (x : ℕ) (xs : List ℕ) → is_large x ≡ b → (mask_l (map is_large (x ∷ xs)) ≡ 0 → ⊥)
    → ((mask_l (map is_large xs) ≡ 0 → ⊥) → HasLarge xs) → HasLarge (x ∷ xs)
large_by true x xs e some rest = (0, omega arith, e)
large_by false x xs e some rest =
    let (k, lt, is) = rest (λ none. some (rw (e, none) refl)) in
    (suc k, omega (arith, lt), is)

some_large : (xs : List ℕ) → (mask_l (map is_large xs) ≡ 0 → ⊥) → HasLarge xs
some_large [] some = absurd (some refl)
some_large (x ∷ xs) some = large_by (is_large x) x xs refl some (some_large xs)

record Are (digits values bytes : List ℕ) : Type 0 where
  pub digits_long : length digits ≡ 16
  pub values_long : length values ≡ 16
  pub bytes_long : length bytes ≡ 8
  pub values_are : (k : ℕ) → k < 16 → IsValue (get_or digits k 0) (get_or values k 0)
  pub bytes_are : (k : ℕ) → k < 8
      → get_or bytes k 0 ≡ 16 * (get_or values (2 * k) 0 % 16) + get_or values (2 * k + 1) 0 % 16

byte_is : (a b x y byte : ℕ) → IsValue a x → IsValue b y → x < 16 → y < 16 → byte ≡ 16 * (x % 16) + y % 16
    → byte ≡ 16 * digit_value a + digit_value b
byte_is a b x y byte p q f g e = omega (arith, e, f, g, (p.digit f).1, (q.digit g).1)

say_by : (none : Bool) (digits values bytes : List ℕ) → eqb (mask_l (map is_large values)) 0 ≡ none
    → Are digits values bytes → MatchBool none (bytes_by_digits digits ≡ Some bytes) (bytes_by_digits digits ≡ None)
say_by true digits values bytes e a =
    let small : (k : ℕ) → k < 16 → get_or values k 0 < 16 = λ k h.
    leb-false 16 _ (none_large values k (eqb-true _ 0 e) (omega (arith, a.values_long, h))) in
    all_say 8 digits bytes (omega (arith, a.digits_long)) a.bytes_long
    (λ k h. ((a.values_are k (omega arith)).digit (small k (omega arith))).0)
    (λ k h. byte_is _ _ _ _ _ (a.values_are (2 * k) (omega (arith, h))) (a.values_are (2 * k + 1) (omega (arith, h)))
    (small (2 * k) (omega (arith, h))) (small (2 * k + 1) (omega (arith, h))) (a.bytes_are k h))
say_by false digits values bytes e a =
    let (k, lt, is) = some_large values (eqb-false _ 0 e) in
    none_at digits k (omega (arith, a.digits_long, a.values_long, lt))
    ((a.values_are k (omega (arith, a.values_long, lt))).none (leb-true 16 _ is))

-- Sixteen digits mean the bytes that vectors make of them, or one of them is no digit.
pub eight_say : (digits values old bytes : List ℕ) → length digits ≡ 16 → length values ≡ 16 → length old ≡ 8
    → length bytes ≡ 8 → ((k : ℕ) → k < 16 → IsValue (get_or (chunk 0 16 digits) k 0) (get_or values k 0))
    → ((k : ℕ) → k < 8 → get_or bytes k 0 ≡ 16 * (get_or values (2 * k) 0 % 16) + get_or values (2 * k + 1) 0 % 16)
    → MatchBool (eqb (bits_at_least values) 0) (bytes_by_digits digits ≡ Some (put_chunk 0 old bytes))
    (bytes_by_digits digits ≡ None)
eight_say digits values old bytes d v o b are is =
    let whole : take 16 digits ≡ digits = take_all 16 digits (omega (arith, d)) in
    let put : put_chunk 0 old bytes ≡ bytes = put_chunk_whole old bytes (o ∙ sym b) in
    let each : (k : ℕ) → k < 16 → IsValue (get_or digits k 0) (get_or values k 0) = λ k h.
    subst (λ (l : List ℕ). IsValue (get_or l k 0) (get_or values k 0)) whole (are k h) in
    rw (bits_are values v, put) (say_by (eqb (mask_l (map is_large values)) 0) digits values bytes refl
    (record { digits_long = d; values_long = v; bytes_long = b; values_are = each; bytes_are = is }))
