-- Four units of up to three bytes, each as four bytes, of which those that it has are packed.
use Rattle.std.proofs.Common.{◌≡◌, ℕ, ◌+◌, ◌*◌, ◌/◌, ◌%◌, ◌<◌, Bool, true, false, List, [], ◌∷◌, ◌++◌, length, take}
use Rattle.std.proofs.Common.{map, inl, inr, refl, sym, ◌∙◌, ap, ap₂, arith}
use Rattle.std.specs.Prelude.{count_ones}
use Rattle.std.specs.List.{flat_map}
use Rattle.std.specs.Simd.Lanes.{mask_l}
use Rattle.std.proofs.Math.Dec.{eqb}
use Rattle.std.proofs.lemmas.Bool.{cases_Bool}
use Rattle.std.proofs.lemmas.List.{length-map}
use Rattle.cv_block.proofs.Lanes.{below_rest}
use Rattle.cv_simd.specs.Compressed.{flags, from_triples}
use Rattle.cv_simd.proofs.TableRows.{flags_of}
use Rattle.cv_utf8.specs.Utf8.{utf8_bytes}
use Rattle.cv_utf8.specs.Private.TwoByte.{has_two}
use Rattle.cv_utf8.specs.Private.ThreeByte.{has_three, quad_of, size_bits, AreThreeByte}
use Rattle.cv_utf8.proofs.Utf8Sizes.{four_lt}

flags_low : (a c : ℕ) → flags 4 (a + 16 * c) ≡ flags 4 a
flags_low a c =
    let first : (a + 16 * c) % 2 ≡ a % 2 = omega arith in
    let second : (a + 16 * c) / 2 % 2 ≡ a / 2 % 2 = omega arith in
    let third : (a + 16 * c) / 2 / 2 % 2 ≡ a / 2 / 2 % 2 = omega arith in
    let fourth : (a + 16 * c) / 2 / 2 / 2 % 2 ≡ a / 2 / 2 / 2 % 2 = omega arith in
    ap₂ (λ (x : ℕ) (l : List Bool). eqb x 1 ∷ l) first (ap₂ (λ (x : ℕ) (l : List Bool). eqb x 1 ∷ l) second
    (ap₂ (λ (x y : ℕ). eqb x 1 ∷ eqb y 1 ∷ []) third fourth))

flags_are : (t : ℕ → Bool) (vs : List ℕ) → length vs ≡ 4 → flags 4 (mask_l (map t vs)) ≡ map t vs
flags_are t vs long =
    let four : length (map t vs) ≡ 4 = length-map vs t ∙ long in
    ap (λ n. flags n (mask_l (map t vs))) (sym four) ∙ flags_of (map t vs)

one_byte : (v : ℕ) → has_two v ≡ false → (has_three v ≡ false) × (quad_of v ≡ v ∷ 0 ∷ 0 ∷ 0 ∷ [])
    × (utf8_bytes v ≡ v ∷ [])
one_byte v h = (grind arith, grind arith, grind arith)

two_bytes : (v : ℕ) → has_two v ≡ true → has_three v ≡ false → (quad_of v ≡ (0xc0 + v / 64) ∷ (0x80 + v % 64) ∷ 0 ∷ 0
    ∷ []) × (utf8_bytes v ≡ (0xc0 + v / 64) ∷ (0x80 + v % 64) ∷ [])
two_bytes v h k = (grind arith, grind arith)

three_bytes : (v : ℕ) → v < 0x10000 → has_three v ≡ true → (has_two v ≡ true)
    × (quad_of v ≡ (0xe0 + v / 4096) ∷ (0x80 + v / 64 % 64) ∷ (0x80 + v % 64) ∷ 0 ∷ [])
    × (utf8_bytes v ≡ (0xe0 + v / 4096) ∷ (0x80 + v / 64 % 64) ∷ (0x80 + v % 64) ∷ [])
three_bytes v l h = (grind arith, grind arith, grind arith)

packed_are : (vs : List ℕ) → AreThreeByte vs → from_triples (map has_two vs) (map has_three vs) (flat_map quad_of vs)
    ≡ flat_map utf8_bytes vs
packed_are [] p = refl
packed_are (v ∷ vs) p =
    let left : List ℕ = flat_map utf8_bytes vs in
    let rest : List ℕ = flat_map quad_of vs in
    let more : from_triples (map has_two vs) (map has_three vs) rest ≡ left =
    packed_are vs (below_rest 0x10000 v vs p) in
    elim (cases_Bool (has_three v)) [
      | inl h ↦ (
          let is = three_bytes v (p 0 (omega arith)) h in
          ap₂ (λ (b c : Bool). from_triples (b ∷ map has_two vs) (c ∷ map has_three vs) (quad_of v ++ rest)) is.0 h
          ∙ ap (λ (l : List ℕ). from_triples (true ∷ map has_two vs) (true ∷ map has_three vs) (l ++ rest)) is.1
          ∙ ap (λ (l : List ℕ). (0xe0 + v / 4096) ∷ (0x80 + v / 64 % 64) ∷ (0x80 + v % 64) ∷ l) more
          ∙ sym (ap (λ (l : List ℕ). l ++ left) is.2))
      | inr h ↦ elim (cases_Bool (has_two v)) [
        | inl k ↦ (
            let is = two_bytes v k h in
            ap₂ (λ (b c : Bool). from_triples (b ∷ map has_two vs) (c ∷ map has_three vs) (quad_of v ++ rest)) k h
            ∙ ap (λ (l : List ℕ). from_triples (true ∷ map has_two vs) (false ∷ map has_three vs) (l ++ rest)) is.0
            ∙ ap (λ (l : List ℕ). (0xc0 + v / 64) ∷ (0x80 + v % 64) ∷ l) more
            ∙ sym (ap (λ (l : List ℕ). l ++ left) is.1))
        | inr k ↦ (
            let is = one_byte v k in
            ap₂ (λ (b c : Bool). from_triples (b ∷ map has_two vs) (c ∷ map has_three vs) (quad_of v ++ rest)) k h
            ∙ ap (λ (l : List ℕ). from_triples (false ∷ map has_two vs) (false ∷ map has_three vs) (l ++ rest)) is.1
            ∙ ap (λ (l : List ℕ). v ∷ l) more ∙ sym (ap (λ (l : List ℕ). l ++ left) is.2))
      ]
    ]

-- packed, they begin with the bytes of the units
pub begin_packed : (vs fours packed : List ℕ) (sizes : ℕ) → length vs ≡ 4 → AreThreeByte vs
    → fours ≡ flat_map quad_of vs → sizes ≡ size_bits vs → take (4 + count_ones sizes) packed
    ≡ from_triples (flags 4 sizes) (flags 4 (sizes / 16)) fours
    → take (4 + count_ones sizes) packed ≡ flat_map utf8_bytes vs
begin_packed vs fours packed sizes long p is bits front =
    let high : sizes / 16 ≡ mask_l (map has_three vs) = omega (arith, bits, four_lt has_two vs long) in
    let twos : flags 4 sizes ≡ map has_two vs = ap (flags 4) bits
    ∙ flags_low (mask_l (map has_two vs)) (mask_l (map has_three vs)) ∙ flags_are has_two vs long in
    let threes : flags 4 (sizes / 16) ≡ map has_three vs = ap (flags 4) high ∙ flags_are has_three vs long in
    front ∙ ap₂ (λ (bs cs : List Bool). from_triples bs cs fours) twos threes
    ∙ ap (from_triples (map has_two vs) (map has_three vs)) is ∙ packed_are vs p
