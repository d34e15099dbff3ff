-- Units of up to two bytes. Each is computed as two bytes, and those that it has are packed.
use Rattle.std.proofs.Common.{◌≡◌, ℕ, ◌+◌, ◌*◌, ◌/◌, ◌%◌, ◌^◌, ◌<◌, Bool, cond, List, [], ◌∷◌, ◌++◌, get_or-take}
use Rattle.std.proofs.Common.{length, take, drop, get_or, map, refl, sym, ◌∙◌, ap, ap₂, subst, arith, zero, suc}
use Rattle.std.proofs.Common.{get_or-drop, length-take, length-drop}
use Rattle.std.specs.Prelude.{replicate}
use Rattle.std.specs.List.{flat_map}
use Rattle.std.specs.Simd.Lanes.{mask_l, number_l, digits_l, pick_l, top, zip2, sel_l}
use Rattle.std.proofs.Math.Dec.{leb}
use Rattle.std.proofs.lemmas.List.{length-map}
use Rattle.cv_block.specs.Slack.{IsPutWithSlack}
use Rattle.cv_block.proofs.Lanes.{lane_bytes, below_rest, AllBelow}
use Rattle.cv_simd.specs.Compressed.{flags, from_pairs}
use Rattle.cv_simd.proofs.TableRows.{flags_of}
use Rattle.cv_utf8.specs.Utf8.{utf8_bytes}
use Rattle.cv_utf8.specs.Private.TwoByte.{has_two, ArePairs}
use Rattle.cv_utf8.proofs.Utf8Sizes.{firsts_are}

-- ---- two bytes for each unit, as vectors compute them

abbrev two_word : ℕ → ℕ
two_word v = ((v / 64 + ((v % 64) * 0x100) % 2 ^ 16) % 2 ^ 16 + 0x80c0) % 2 ^ 16

abbrev pub two_words : ℕ → List ℕ → List ℕ
two_words n vs = zip2 (λ a b. (a + b) % 2 ^ 16) (zip2 (λ a b. (a + b) % 2 ^ 16) (zip2 (λ a b. a / b) vs
    (replicate n 64)) (zip2 (λ a b. (a * b) % 2 ^ 16) (zip2 (λ a b. a % b) vs (replicate n 64)) (replicate n 0x100)))
    (replicate n 0x80c0)

two_words_are : (n : ℕ) (vs : List ℕ) → length vs ≡ n → two_words n vs ≡ map two_word vs
two_words_are zero [] e = refl
two_words_are zero (v ∷ vs) e = absurd (omega arith)
two_words_are (suc n) [] e = absurd (omega arith)
two_words_are (suc n) (v ∷ vs) e = ap (λ (l : List ℕ). two_word v ∷ l) (two_words_are n vs (omega arith))

abbrev word : ℕ → ℕ
word v = cond (top 15 (cond (leb 0x80 v) 0xffff 0)) (two_word v) v

abbrev pub words : ℕ → List ℕ → List ℕ → List ℕ
words n twos vs = sel_l (map (top 15) (zip2 (λ a b. cond (leb a b) 0xffff 0) (replicate n 0x80) vs)) twos vs

words_are : (n : ℕ) (vs : List ℕ) → length vs ≡ n → words n (map two_word vs) vs ≡ map word vs
words_are zero [] e = refl
words_are zero (v ∷ vs) e = absurd (omega arith)
words_are (suc n) [] e = absurd (omega arith)
words_are (suc n) (v ∷ vs) e = ap (λ (l : List ℕ). word v ∷ l) (words_are n vs (omega arith))

word_lt : (v : ℕ) → v < 0x800 → word v < 65536
word_lt v h = grind arith

word_pair : (v : ℕ) → v < 0x800 → word v % 256 ∷ cond (has_two v) (word v / 256 % 256 ∷ []) [] ≡ utf8_bytes v
word_pair v h = grind arith

-- ---- two bytes for each character below 256

abbrev first_word : ℕ → ℕ
first_word v = cond (top 7 (cond (leb 0x80 v) 255 0)) ((v / 64 + 0xc0) % 2 ^ 8) v

abbrev pub first_words : ℕ → List ℕ → List ℕ
first_words n vs = sel_l (map (top 7) (zip2 (λ a b. cond (leb a b) 255 0) (replicate n 0x80) vs))
    (zip2 (λ a b. (a + b) % 2 ^ 8) (zip2 (λ a b. a / b) vs (replicate n 64)) (replicate n 0xc0)) vs

first_words_are : (n : ℕ) (vs : List ℕ) → length vs ≡ n → first_words n vs ≡ map first_word vs
first_words_are zero [] e = refl
first_words_are zero (v ∷ vs) e = absurd (omega arith)
first_words_are (suc n) [] e = absurd (omega arith)
first_words_are (suc n) (v ∷ vs) e = ap (λ (l : List ℕ). first_word v ∷ l) (first_words_are n vs (omega arith))

abbrev second_word : ℕ → ℕ
second_word v = (v % 64 + 0x80) % 2 ^ 8

abbrev pub second_words : ℕ → List ℕ → List ℕ
second_words n vs = zip2 (λ a b. (a + b) % 2 ^ 8) (zip2 (λ a b. a % b) vs (replicate n 64)) (replicate n 0x80)

second_words_are : (n : ℕ) (vs : List ℕ) → length vs ≡ n → second_words n vs ≡ map second_word vs
second_words_are zero [] e = refl
second_words_are zero (v ∷ vs) e = absurd (omega arith)
second_words_are (suc n) [] e = absurd (omega arith)
second_words_are (suc n) (v ∷ vs) e = ap (λ (l : List ℕ). second_word v ∷ l) (second_words_are n vs (omega arith))

latin1_pair : (v : ℕ) → v < 256 → first_word v ∷ cond (has_two v) (second_word v ∷ []) [] ≡ utf8_bytes v
latin1_pair v h = grind arith

abbrev picked : List ℕ → List ℕ → List ℕ
picked vs lanes = pick_l 0 (map first_word vs ++ map second_word vs) lanes

abbrev low_lanes : List ℕ
low_lanes = 0 ∷ 16 ∷ 1 ∷ 17 ∷ 2 ∷ 18 ∷ 3 ∷ 19 ∷ 4 ∷ 20 ∷ 5 ∷ 21 ∷ 6 ∷ 22 ∷ 7 ∷ 23 ∷ []

abbrev high_lanes : List ℕ
high_lanes = 8 ∷ 24 ∷ 9 ∷ 25 ∷ 10 ∷ 26 ∷ 11 ∷ 27 ∷ 12 ∷ 28 ∷ 13 ∷ 29 ∷ 14 ∷ 30 ∷ 15 ∷ 31 ∷ []

abbrev pair_of : ℕ → List ℕ
pair_of v = first_word v ∷ second_word v ∷ []

low_picked : (vs : List ℕ) → length vs ≡ 16 → picked vs low_lanes ≡ flat_map pair_of (take 8 vs)
low_picked vs long = subst (λ (ws : List ℕ). picked ws low_lanes ≡ flat_map pair_of (take 8 ws)) (firsts_are 16 vs long)
    refl

high_picked : (vs : List ℕ) → length vs ≡ 16 → picked vs high_lanes ≡ flat_map pair_of (drop 8 vs)
high_picked vs long = subst (λ (ws : List ℕ). picked ws high_lanes ≡ flat_map pair_of (drop 8 ws))
    (firsts_are 16 vs long) refl

-- ---- what is kept of pairs

kept_are : (f g : ℕ → ℕ) (limit : ℕ) → ((v : ℕ) → v < limit → f v ∷ cond (has_two v) (g v ∷ []) [] ≡ utf8_bytes v)
    → (vs : List ℕ) → AllBelow limit vs → ArePairs (flat_map (λ v. f v ∷ g v ∷ []) vs) vs
kept_are f g limit is [] p = refl
kept_are f g limit is (v ∷ vs) p = ap₂ (λ (a b : List ℕ). a ++ b) (is v (p 0 (omega arith)))
    (kept_are f g limit is vs (below_rest limit v vs p))

-- the bytes of eight lanes of two bytes
pairs_are : (vs twos : List ℕ) → length vs ≡ 8 → twos ≡ map two_word vs
    → AllBelow 0x800 vs → ArePairs (digits_l 256 16 (number_l 65536 (words 8 twos vs))) vs
pairs_are vs twos long e p =
    let bytes : digits_l 256 16 (number_l 65536 (words 8 twos vs))
    ≡ flat_map (λ v. word v % 256 ∷ word v / 256 % 256 ∷ []) vs =
    ap (λ l. digits_l 256 16 (number_l 65536 l)) (ap (λ (l : List ℕ). words 8 l vs) e ∙ words_are 8 vs long)
    ∙ lane_bytes word (λ v. word v % 256 ∷ word v / 256 % 256 ∷ []) 0x800 word_lt (λ v h. refl) 8 vs long
    (λ k h. p k (omega (arith, h, long))) in
    ap (from_pairs (map has_two vs)) bytes
    ∙ kept_are (λ v. word v % 256) (λ v. word v / 256 % 256) 0x800 word_pair vs p

abbrev low_part : List ℕ → List ℕ
low_part vs = pick_l 0 (vs ++ vs) (0 ∷ 1 ∷ 2 ∷ 3 ∷ 4 ∷ 5 ∷ 6 ∷ 7 ∷ [])

abbrev high_part : List ℕ → List ℕ
high_part vs = pick_l 0 (vs ++ vs) (8 ∷ 9 ∷ 10 ∷ 11 ∷ 12 ∷ 13 ∷ 14 ∷ 15 ∷ [])

-- the pairs of the first eight of sixteen units of up to two bytes
pub first_pairs : (vs : List ℕ) → length vs ≡ 16 → ((k : ℕ) → k < 16 → get_or vs k 0 < 0x800)
    → ArePairs (digits_l 256 16 (number_l 65536 (words 8 (low_part (two_words 16 vs)) (low_part vs)))) (take 8 vs)
first_pairs vs long p =
    let twos : low_part (map two_word vs) ≡ map two_word (low_part vs) =
    subst (λ (ws : List ℕ). low_part (map two_word ws) ≡ map two_word (low_part ws)) (firsts_are 16 vs long) refl in
    let is : low_part vs ≡ take 8 vs =
    subst (λ (ws : List ℕ). low_part ws ≡ take 8 ws) (firsts_are 16 vs long) refl in
    subst (ArePairs (digits_l 256 16 (number_l 65536 (words 8 (low_part (two_words 16 vs)) (low_part vs))))) is
    (pairs_are (low_part vs) _ refl (ap low_part (two_words_are 16 vs long) ∙ twos)
    (subst (AllBelow 0x800) (sym is) (λ k h. (let few : k < 8 = omega (arith, h, length-take 8 vs) in
    rw get_or-take (p k (omega arith))))))

-- the pairs of the last eight
pub last_pairs : (vs : List ℕ) → length vs ≡ 16 → ((k : ℕ) → k < 16 → get_or vs k 0 < 0x800)
    → ArePairs (digits_l 256 16 (number_l 65536 (words 8 (high_part (two_words 16 vs)) (high_part vs)))) (drop 8 vs)
last_pairs vs long p =
    let twos : high_part (map two_word vs) ≡ map two_word (high_part vs) =
    subst (λ (ws : List ℕ). high_part (map two_word ws) ≡ map two_word (high_part ws)) (firsts_are 16 vs long) refl in
    let is : high_part vs ≡ drop 8 vs =
    subst (λ (ws : List ℕ). high_part ws ≡ drop 8 ws) (firsts_are 16 vs long) refl in
    subst (ArePairs (digits_l 256 16 (number_l 65536 (words 8 (high_part (two_words 16 vs)) (high_part vs))))) is
    (pairs_are (high_part vs) _ refl (ap high_part (two_words_are 16 vs long) ∙ twos)
    (subst (AllBelow 0x800) (sym is) (λ k h. rw get_or-drop (p (8 + k) (omega (arith, h, length-drop 8 vs, long))))))

-- the pairs of the first eight of sixteen characters below 256
pub low_pairs : (vs : List ℕ) → length vs ≡ 16 → AllBelow 256 vs → ArePairs
    (pick_l 0 (first_words 16 vs ++ second_words 16 vs) low_lanes) (take 8 vs)
low_pairs vs long p = ap (from_pairs (map has_two (take 8 vs))) (ap₂ (λ (a b : List ℕ). pick_l 0 (a ++ b) low_lanes)
    (first_words_are 16 vs long) (second_words_are 16 vs long) ∙ low_picked vs long)
    ∙ kept_are first_word second_word 256 latin1_pair (take 8 vs)
    (λ k h. let few : k < 8 = omega (arith, h, length-take 8 vs) in rw get_or-take (p k (omega arith)))

-- the pairs of the last eight
pub high_pairs : (vs : List ℕ) → length vs ≡ 16 → AllBelow 256 vs → ArePairs
    (pick_l 0 (first_words 16 vs ++ second_words 16 vs) high_lanes) (drop 8 vs)
high_pairs vs long p = ap (from_pairs (map has_two (drop 8 vs))) (ap₂ (λ (a b : List ℕ). pick_l 0 (a ++ b) high_lanes)
    (first_words_are 16 vs long) (second_words_are 16 vs long) ∙ high_picked vs long)
    ∙ kept_are first_word second_word 256 latin1_pair (drop 8 vs)
    (λ k h. rw get_or-drop (p (8 + k) (omega (arith, h, length-drop 8 vs, long))))

-- ---- eight units that are put

-- the units are put if what the mask keeps of their pairs is
pub kept_put : (vs pairs before : List ℕ) (mask at n : ℕ) (after : List ℕ) → length vs ≡ 8
    → mask ≡ mask_l (map has_two vs) → ArePairs pairs vs
    → IsPutWithSlack (from_pairs (flags 8 mask) pairs) before at n 16 after
    → IsPutWithSlack (flat_map utf8_bytes vs) before at n 16 after
kept_put vs pairs before mask at n after long is p put =
    let eight : length (map has_two vs) ≡ 8 = length-map vs has_two ∙ long in
    let bits : flags 8 mask ≡ map has_two vs = ap (flags 8) is
    ∙ ap (λ n. flags n (mask_l (map has_two vs))) (sym eight) ∙ flags_of (map has_two vs) in
    subst (λ (l : List ℕ). IsPutWithSlack l before at n 16 after)
    (ap (λ (bs : List Bool). from_pairs bs pairs) bits ∙ p) put
