-- The values of digits have the bits of the units.
use Rattle.std.proofs.Common.{◌≡◌, ℕ, ◌+◌, ◌*◌, ◌/◌, ◌%◌, ◌^◌, ◌<◌, Bool, List}
use Rattle.std.proofs.Common.{[], ◌∷◌, ◌++◌, length, take, get_or, map, refl, sym, ap, subst, ◌∙◌, arith}
use Rattle.std.proofs.Common.{append_assoc}
use Rattle.std.specs.List.{flat_map}
use Rattle.std.specs.Simd.Lanes.{Each1}
use Rattle.std.proofs.Math.Nat.{mod-eq_of_lt}
use Rattle.std.proofs.lemmas.Simd.{Each1-get_or}
use Rattle.cv_utf7.specs.BitLists.{bits, digits, number}
use Rattle.cv_utf7.specs.Private.Groups.{pairs_in, values_in}
use Rattle.cv_utf7.specs.Sets.{digit_of}
use Rattle.cv_utf7.proofs.BitStrings.{bits-split, bits-mod, bits-digit, number-bits, length-bits}
use Rattle.cv_utf7.proofs.Cuts.{digits_six}
use Rattle.cv_utf7.proofs.PairLanes.{by_eight}

-- the digits of six bits each
digits_of_values : (xs : List ℕ) → Each1 (λ x. x < 64) xs → digits (flat_map (bits 6) xs) ≡ map digit_of xs
digits_of_values [] h = refl
digits_of_values (x ∷ xs) h =
    let n : number (bits 6 x) ≡ x = number-bits 6 x ∙ mod-eq_of_lt h.0 in
    (digits_six (bits 6 x) (flat_map (bits 6) xs) (length-bits 6 x)).0
    ∙ ap (λ (k : ℕ). digit_of k ∷ digits (flat_map (bits 6) xs)) n
    ∙ ap (λ (l : List ℕ). digit_of x ∷ l) (digits_of_values xs h.1)

-- a number of bits by its high and its low part
part : (m n v x y : ℕ) → v / 2 ^ n ≡ x → v % 2 ^ n ≡ y % 2 ^ n → bits (m + n) v ≡ bits m x ++ bits n y
part m n v x y e f = bits-split m n v ∙ ap (λ (k : ℕ). bits m k ++ bits n v) e
    ∙ ap (λ (l : List Bool). bits m x ++ l) (bits-mod n v y f)

-- the values of the four pairs of three units
three_bits : (a b c : ℕ) → a < 65536 → b < 65536 → c < 65536 → (rest : List Bool)
    → (let p : ℕ = b / 256 + 256 * (a % 256) in let q : ℕ = c / 256 + 256 * (b % 256) in
    bits 6 (a / 1024) ++ (bits 6 (a / 16 % 64) ++ (bits 6 (p / 64 % 64) ++ (bits 6 (p % 64)
    ++ (bits 6 (q / 1024) ++ (bits 6 (q / 16 % 64) ++ (bits 6 (c / 64 % 64) ++ (bits 6 (c % 64) ++ rest)))))))
    ≡ bits 16 a ++ (bits 16 b ++ (bits 16 c ++ rest)))
three_bits a b c ha hb hc rest =
    let p : ℕ = b / 256 + 256 * (a % 256) in
    let q : ℕ = c / 256 + 256 * (b % 256) in
    let all : ℕ = (a * 65536 + b) * 65536 + c in
    let first : bits 6 (a / 1024) ++ bits 6 (a / 16 % 64) ≡ bits 12 (a / 16) =
    bits-digit 6 (a / 1024) (a / 16 % 64) (omega arith) ∙ ap (bits 12) (omega arith) in
    let second : bits 6 (p / 64 % 64) ++ bits 6 (p % 64) ≡ bits 12 (p % 4096) =
    bits-digit 6 (p / 64 % 64) (p % 64) (omega arith) ∙ ap (bits 12) (omega arith) in
    let third : bits 6 (q / 1024) ++ bits 6 (q / 16 % 64) ≡ bits 12 (q / 16) =
    bits-digit 6 (q / 1024) (q / 16 % 64) (omega arith) ∙ ap (bits 12) (omega arith) in
    let fourth : bits 6 (c / 64 % 64) ++ bits 6 (c % 64) ≡ bits 12 (c % 4096) =
    bits-digit 6 (c / 64 % 64) (c % 64) (omega arith) ∙ ap (bits 12) (omega arith) in
    let high : bits 12 (a / 16) ++ bits 12 (p % 4096) ≡ bits 16 a ++ bits 8 (b / 256) =
    sym (part 12 12 (a * 256 + b / 256) (a / 16) (p % 4096) (omega arith) (omega arith))
    ∙ part 16 8 (a * 256 + b / 256) a (b / 256) (omega arith) (omega arith) in
    let low : bits 12 (q / 16) ++ bits 12 (c % 4096) ≡ bits 8 (b % 256) ++ bits 16 c =
    sym (part 12 12 (b % 256 * 65536 + c) (q / 16) (c % 4096) (omega arith) (omega arith))
    ∙ part 8 16 (b % 256 * 65536 + c) (b % 256) c (omega arith) (omega arith) in
    let middle : bits 8 (b / 256) ++ bits 8 (b % 256) ≡ bits 16 b =
    sym (part 8 8 b (b / 256) (b % 256) (omega arith) (omega arith)) in
    sym (append_assoc (bits 6 (a / 1024)) (bits 6 (a / 16 % 64)) _)
    ∙ ap (λ (l : List Bool). l ++ (bits 6 (p / 64 % 64) ++ (bits 6 (p % 64) ++ (bits 6 (q / 1024)
    ++ (bits 6 (q / 16 % 64) ++ (bits 6 (c / 64 % 64) ++ (bits 6 (c % 64) ++ rest))))))) first
    ∙ ap (λ (l : List Bool). bits 12 (a / 16) ++ l) (sym (append_assoc (bits 6 (p / 64 % 64)) (bits 6 (p % 64)) _)
    ∙ ap (λ (l : List Bool). l ++ (bits 6 (q / 1024) ++ (bits 6 (q / 16 % 64) ++ (bits 6 (c / 64 % 64)
    ++ (bits 6 (c % 64) ++ rest))))) second)
    ∙ ap (λ (l : List Bool). bits 12 (a / 16) ++ (bits 12 (p % 4096) ++ l))
    (sym (append_assoc (bits 6 (q / 1024)) (bits 6 (q / 16 % 64)) _)
    ∙ ap (λ (l : List Bool). l ++ (bits 6 (c / 64 % 64) ++ (bits 6 (c % 64) ++ rest))) third
    ∙ ap (λ (l : List Bool). bits 12 (q / 16) ++ l)
    (sym (append_assoc (bits 6 (c / 64 % 64)) (bits 6 (c % 64)) rest) ∙ ap (λ (l : List Bool). l ++ rest) fourth))
    ∙ sym (append_assoc (bits 12 (a / 16)) (bits 12 (p % 4096)) (bits 12 (q / 16) ++ (bits 12 (c % 4096) ++ rest)))
    ∙ ap (λ (l : List Bool). l ++ (bits 12 (q / 16) ++ (bits 12 (c % 4096) ++ rest))) high
    ∙ ap (λ (l : List Bool). (bits 16 a ++ bits 8 (b / 256)) ++ l)
    (sym (append_assoc (bits 12 (q / 16)) (bits 12 (c % 4096)) rest) ∙ ap (λ (l : List Bool). l ++ rest) low
    ∙ append_assoc (bits 8 (b % 256)) (bits 16 c) rest)
    ∙ append_assoc (bits 16 a) (bits 8 (b / 256)) (bits 8 (b % 256) ++ (bits 16 c ++ rest))
    ∙ ap (λ (l : List Bool). bits 16 a ++ l)
    (sym (append_assoc (bits 8 (b / 256)) (bits 8 (b % 256)) (bits 16 c ++ rest))
    ∙ ap (λ (l : List Bool). l ++ (bits 16 c ++ rest)) middle)

-- the values of the digits of units
abbrev unit_values : List ℕ → List ℕ
unit_values units = values_in (pairs_in units)

-- Each value is below 64, and together they have the bits of the first six units.
pub record AreValues (units : List ℕ) : Type 0 where
  pub small : (k : ℕ) → k < 16 → get_or (unit_values units) k 0 < 64
  pub are : digits (flat_map (bits 6) (unit_values units)) ≡ map digit_of (unit_values units)
  pub same : flat_map (bits 6) (unit_values units) ≡ flat_map (bits 16) (take 6 units)

-- pairs of units have sixteen bits
small_pairs : (units : List ℕ) → Each1 (λ x. x < 65536) units → Each1 (λ x. x < 65536) (pairs_in units)
small_pairs [] h = tt
small_pairs (a ∷ []) h = tt
small_pairs (a ∷ b ∷ []) h = tt
small_pairs (a ∷ b ∷ c ∷ units) h =
    let hb : b < 65536 = h.1.0 in
    let hc : c < 65536 = h.1.1.0 in
    (h.0, (omega arith, (omega arith, (hc, small_pairs units h.1.1.1))))

-- values have six bits
small_each : (xs : List ℕ) → Each1 (λ x. x < 65536) xs → Each1 (λ x. x < 64) (values_in xs)
small_each [] h = tt
small_each (p ∷ []) h = tt
small_each (p ∷ q ∷ xs) h =
    let hp : p < 65536 = h.0 in
    (omega arith, (omega arith, (omega arith, (omega arith, small_each xs h.1.1))))

-- the values of units
pub units_values : (units : List ℕ) → length units ≡ 8 → Each1 (λ x. x < 65536) units → AreValues units
units_values units long = by_eight (λ (units : List ℕ). Each1 (λ x. x < 65536) units → AreValues units)
    (λ a b c d e f g h s.
    let units : List ℕ = a ∷ b ∷ c ∷ d ∷ e ∷ f ∷ g ∷ h ∷ [] in
    let small : Each1 (λ x. x < 64) (unit_values units) = small_each (pairs_in units) (small_pairs units s) in
    record {
      small = λ k l. Each1-get_or (λ x. x < 64) (unit_values units) k 0 l small;
      are = digits_of_values (unit_values units) small;
      same = three_bits a b c s.0 s.1.0 s.1.1.0 _ ∙ ap (λ (l : List Bool). bits 16 a ++ (bits 16 b ++ (bits 16 c ++ l)))
          (three_bits d e f s.1.1.1.0 s.1.1.1.1.0 s.1.1.1.1.1.0 []);
    }) units long

-- the values of pairs are below 64
pub small_values : (units ps vs : List ℕ) → AreValues units → ps ≡ pairs_in units → vs ≡ values_in ps
    → (k : ℕ) → k < 16 → get_or vs k 0 < 64
small_values units ps vs a p v k h =
    subst (λ (l : List ℕ). get_or l k 0 < 64) (sym (v ∙ ap values_in p)) (a.small k h)

-- the digits of the values are those of the units
pub digits_units : (units ps vs ds : List ℕ) → AreValues units → ps ≡ pairs_in units → vs ≡ values_in ps
    → ds ≡ map digit_of vs → ds ≡ digits (flat_map (bits 16) (take 6 units))
digits_units units ps vs ds a p v d =
    d ∙ ap (map digit_of) (v ∙ ap values_in p) ∙ sym a.are ∙ ap digits a.same
