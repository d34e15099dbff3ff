-- Sixteen bytes in hexadecimal, as vectors write them.
use Rattle.std.proofs.Common.{◌≡◌, ℕ, zero, suc, ◌+◌, ◌*◌, ◌/◌, ◌%◌, ◌<◌, true, false, cond, List, [], ◌∷◌, ◌++◌}
use Rattle.std.proofs.Common.{length, take, drop, get_or, map, refl, sym, ap, ap₂, subst, ◌∙◌, append_assoc}
use Rattle.std.proofs.Common.{take-append-drop, arith, eqb}
use Rattle.std.specs.Prelude.{replicate}
use Rattle.std.specs.Fmt.{digit_glyph}
use Rattle.std.specs.List.{flat_map}
use Rattle.std.specs.Simd.Lanes.{Each1, chunk, put_chunk, pick_l, top, zip2, sel_l}
use Rattle.std.proofs.Math.Dec.{ltb}
use Rattle.std.proofs.Math.Seq.{take-add}
use Rattle.std.proofs.lemmas.Bool.{agree_below_at, eqb-true}
use Rattle.std.proofs.lemmas.Grind.{flat_map-append}
use Rattle.std.proofs.lemmas.List.{take_all}
use Rattle.std.proofs.lemmas.Simd.{Each1-get_or, get_or-zip2, get_or-replicate}
use Rattle.cv_commands.specs.Lines.{hexadecimal}

-- ---- the digits of numbers below 16

abbrev glyph_lane : ℕ → ℕ
glyph_lane x = (cond (top 7 (cond (ltb x 10) 0xff 0)) 48 87 + x) % 256

abbrev glyph_lanes : ℕ → List ℕ → List ℕ
glyph_lanes n xs = zip2 (λ a b. (a + b) % 256)
    (sel_l (map (top 7) (zip2 (λ a b. cond (ltb a b) 0xff 0) xs (replicate n 10))) (replicate n 48) (replicate n 87)) xs

is_glyph : (x : ℕ) → x < 16 → glyph_lane x ≡ digit_glyph false x
is_glyph x h = eqb-true _ _ (agree_below_at (λ y. eqb (glyph_lane y) (digit_glyph false y)) (λ _. true) 16 x refl h)

pub glyphs_are : (n : ℕ) (xs : List ℕ) → length xs ≡ n → ((k : ℕ) → k < n → get_or xs k 0 < 16)
    → glyph_lanes n xs ≡ map (digit_glyph false) xs
glyphs_are zero [] e small = refl
glyphs_are zero (x ∷ xs) e small = absurd (omega arith)
glyphs_are (suc n) [] e small = absurd (omega arith)
glyphs_are (suc n) (x ∷ xs) e small = ap₂ (λ (y : ℕ) (l : List ℕ). y ∷ l) (is_glyph x (small 0 (omega arith)))
    (glyphs_are n xs (omega arith) (λ k h. small (suc k) (omega arith)))

-- ---- the halves of sixteen bytes

abbrev highs : List ℕ → List ℕ
highs xs = zip2 (λ a b. a / b) xs (replicate 16 16)

abbrev lows : List ℕ → List ℕ
lows xs = zip2 (λ a b. a % b) xs (replicate 16 16)

pub high_small : (xs : List ℕ) → length xs ≡ 16 → Each1 (λ x. x < 256) xs → (k : ℕ) → k < 16
    → get_or (highs xs) k 0 < 16
high_small xs long fit k h =
    let byte : get_or xs k 0 < 256 = Each1-get_or (λ x. x < 256) xs k 0 (omega arith) fit in
    rw (get_or-zip2 (λ a b. a / b) xs (replicate 16 16) k 0 0 0 (omega arith) h, get_or-replicate {A = ℕ} 16 k 16 0 h)
    (omega arith)

pub low_small : (xs : List ℕ) → length xs ≡ 16 → (k : ℕ) → k < 16 → get_or (lows xs) k 0 < 16
low_small xs long k h =
    rw (get_or-zip2 (λ a b. a % b) xs (replicate 16 16) k 0 0 0 (omega arith) h, get_or-replicate {A = ℕ} 16 k 16 0 h)
    (omega arith)

-- ---- the digits of both halves, interleaved

abbrev firsts : ℕ → List ℕ → List ℕ
firsts zero xs = []
firsts (suc n) xs = get_or xs 0 0 ∷ firsts n (drop 1 xs)

firsts_are : (n : ℕ) (xs : List ℕ) → length xs ≡ n → firsts n xs ≡ xs
firsts_are zero [] e = refl
firsts_are zero (x ∷ xs) e = absurd (omega arith)
firsts_are (suc n) [] e = absurd (omega arith)
firsts_are (suc n) (x ∷ xs) e = ap (λ (l : List ℕ). x ∷ l) (firsts_are n xs (omega arith))

abbrev first_places : List ℕ
first_places = 0 ∷ 16 ∷ 1 ∷ 17 ∷ 2 ∷ 18 ∷ 3 ∷ 19 ∷ 4 ∷ 20 ∷ 5 ∷ 21 ∷ 6 ∷ 22 ∷ 7 ∷ 23 ∷ []

abbrev second_places : List ℕ
second_places = 8 ∷ 24 ∷ 9 ∷ 25 ∷ 10 ∷ 26 ∷ 11 ∷ 27 ∷ 12 ∷ 28 ∷ 13 ∷ 29 ∷ 14 ∷ 30 ∷ 15 ∷ 31 ∷ []

abbrev by_turns : List ℕ → List ℕ → List ℕ
by_turns xs ys = pick_l 0 (xs ++ ys) first_places ++ pick_l 0 (xs ++ ys) second_places

turns_are : (xs : List ℕ) → length xs ≡ 16
    → by_turns (map (digit_glyph false) (highs xs)) (map (digit_glyph false) (lows xs)) ≡ flat_map hexadecimal xs
turns_are xs long = subst (λ (ys : List ℕ). by_turns (map (digit_glyph false) (highs ys))
    (map (digit_glyph false) (lows ys)) ≡ flat_map hexadecimal ys) (firsts_are 16 xs long) refl

both_put : (xs ys : List ℕ) → length xs ≡ 16 → length ys ≡ 16
    → put_chunk 16 (put_chunk 0 (replicate 32 0) xs) ys ≡ xs ++ ys
both_put xs ys x y = subst (λ (zs : List ℕ). put_chunk 16 (put_chunk 0 (replicate 32 0) zs) ys ≡ zs ++ ys)
    (firsts_are 16 xs x) (subst (λ (zs : List ℕ).
    put_chunk 16 (put_chunk 0 (replicate 32 0) (firsts 16 xs)) zs ≡ firsts 16 xs ++ zs) (firsts_are 16 ys y) refl)

-- The digits of sixteen bytes, after those of their halves were written interleaved.
pub sixteen_written : (bytes high low : List ℕ) → length bytes ≡ 16 → high
    ≡ map (digit_glyph false) (highs (chunk 0 16 bytes)) → low ≡ map (digit_glyph false) (lows (chunk 0 16 bytes))
    → put_chunk 16 (put_chunk 0 (replicate 32 0) (pick_l 0 (high ++ low) first_places))
    (pick_l 0 (high ++ low) second_places) ≡ flat_map hexadecimal bytes
sixteen_written bytes high low long h l =
    let whole : take 16 bytes ≡ bytes = take_all 16 bytes (omega arith) in
    both_put (pick_l 0 (high ++ low) first_places) (pick_l 0 (high ++ low) second_places) refl refl
    ∙ ap₂ by_turns (h ∙ ap (λ (xs : List ℕ). map (digit_glyph false) (highs xs)) whole)
    (l ∙ ap (λ (xs : List ℕ). map (digit_glyph false) (lows xs)) whole) ∙ turns_are bytes long

hex_long : (bytes : List ℕ) → length (flat_map hexadecimal bytes) ≡ 2 * length bytes
hex_long [] = refl
hex_long (x ∷ bytes) = let more = hex_long bytes in omega (arith, more)

pub last_long : (bytes new : List ℕ) → new ≡ flat_map hexadecimal bytes → 2 * length bytes ≡ 0 + length new
last_long bytes new e = rw e (omega (arith, hex_long bytes))

-- The digits of sixteen more bytes.
pub sixteen_more : (before old all bytes new : List ℕ) (n m : ℕ) → old ≡ before ++ flat_map hexadecimal (take n bytes)
    → new ≡ flat_map hexadecimal (take 16 (drop n bytes)) → all ≡ old ++ new → m ≡ n + 16
    → all ≡ before ++ flat_map hexadecimal (take m bytes)
sixteen_more before old all bytes new n m is more joined next =
    let both : flat_map hexadecimal (take n bytes) ++ flat_map hexadecimal (take 16 (drop n bytes))
    ≡ flat_map hexadecimal (take m bytes) =
    sym (flat_map-append hexadecimal (take n bytes) (take 16 (drop n bytes))) ∙ ap (flat_map hexadecimal)
    (sym (take-add n 16 bytes)) ∙ ap (λ (k : ℕ). flat_map hexadecimal (take k bytes)) (sym next) in
    joined ∙ ap₂ (λ (xs ys : List ℕ). xs ++ ys) is more ∙ append_assoc before (flat_map hexadecimal (take n bytes))
    (flat_map hexadecimal (take 16 (drop n bytes))) ∙ ap (λ (xs : List ℕ). before ++ xs) both

-- The digits of the last bytes.
pub last_more : (before old all bytes new : List ℕ) (n m : ℕ) → old ≡ before ++ flat_map hexadecimal (take n bytes)
    → new ≡ flat_map hexadecimal (drop m bytes) → all ≡ old ++ new → n ≡ m → all ≡ before ++ flat_map hexadecimal bytes
last_more before old all bytes new n m is more joined same =
    let both : flat_map hexadecimal (take n bytes) ++ flat_map hexadecimal (drop m bytes) ≡ flat_map hexadecimal bytes =
    ap (λ (k : ℕ). flat_map hexadecimal (take k bytes) ++ flat_map hexadecimal (drop m bytes)) same
    ∙ sym (flat_map-append hexadecimal (take m bytes) (drop m bytes))
    ∙ ap (flat_map hexadecimal) (take-append-drop m bytes) in
    joined ∙ ap₂ (λ (xs ys : List ℕ). xs ++ ys) is more ∙ append_assoc before (flat_map hexadecimal (take n bytes))
    (flat_map hexadecimal (drop m bytes)) ∙ ap (λ (xs : List ℕ). before ++ xs) both
