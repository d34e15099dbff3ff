-- The units of a scalar in UTF-16, and their bytes in each order.
use Rattle.std.proofs.Common.{◌≡◌, ℕ, ◌+◌, ◌*◌, ◌%◌, ◌<◌, ◌≤◌, ◌⊎◌, inl, inr, List, ◌++◌, length, drop, sym, ◌∙◌, ap}
use Rattle.std.proofs.Common.{subst, arith, append-nil, length-append, length-drop}
use Rattle.std.proofs.lemmas.Bool.{cases_lt, lt-ltb, le-ltb}
use Rattle.std.proofs.lemmas.List.{drop-drop}
use Rattle.cv_base.specs.Scalars.{IsScalar}
use Rattle.cv_base.specs.Items.{Begins}
use Rattle.cv_base.specs.Units.{high_unit, low_unit, unit_of}
use Rattle.cv_base.specs.declared.ascii_form.AsciiForm.TheVariants.{Two}
use Rattle.cv_base.specs.declared.endian.Endian.{Endian}
use Rattle.cv_base.proofs.Front.{Begins-join, Begins-length}
use Rattle.cv_block.specs.StatelessForms.{IsFormAt}
use Rattle.cv_block.specs.Surrogates.{IsHighUnit, IsLowUnit, IsPair}
use Rattle.cv_block.specs.Units.{IsUnitAt}
use Rattle.cv_block.proofs.UnitBytes.{length-unit_of}
use Rattle.cv_utf16.specs.Utf16.{utf16}

-- a character below U+10000 has the bytes of one unit
pub one_unit : (e : Endian) (c : ℕ) → c < 0x10000 → utf16 e c ≡ unit_of (Two e) c
one_unit e c h = rw (lt-ltb c 0x10000 h) (append-nil (unit_of (Two e) c))

-- a character from U+10000 on has the bytes of two units
pub two_units : (e : Endian) (c : ℕ) → 0x10000 ≤ c
    → utf16 e c ≡ unit_of (Two e) (high_unit c) ++ unit_of (Two e) (low_unit c)
two_units e c h = rw (le-ltb c 0x10000 h)
    (ap (λ (x : List ℕ). unit_of (Two e) (high_unit c) ++ x) (append-nil (unit_of (Two e) (low_unit c))))

-- the bytes of the character of a pair
pub pair_bytes : (e : Endian) (high low c : ℕ) → IsPair high low c
    → utf16 e c ≡ unit_of (Two e) high ++ unit_of (Two e) low
pair_bytes e high low c p =
    two_units e c p.above
    ∙ ap (λ (u : ℕ). unit_of (Two e) u ++ unit_of (Two e) (low_unit c)) p.first
    ∙ ap (λ (u : ℕ). unit_of (Two e) high ++ unit_of (Two e) u) p.second

-- two units have four bytes
pub length-two : (e : Endian) (u v : ℕ) → length (unit_of (Two e) u ++ unit_of (Two e) v) ≡ 4
length-two e u v = omega
    (arith, length-append (unit_of (Two e) u) (unit_of (Two e) v), length-unit_of (Two e) u, length-unit_of (Two e) v)

-- the character of a pair has four bytes
pub pair_size : (e : Endian) (high low c : ℕ) → IsPair high low c → length (utf16 e c) ≡ 4
pair_size e high low c p = ap length (pair_bytes e high low c p) ∙ length-two e high low

-- a character below U+10000 has two bytes
pub size_one : (c : ℕ) → c < 0x10000 → (e : Endian) → length (utf16 e c) ≡ 2
size_one c h e = ap length (one_unit e c h) ∙ length-unit_of (Two e) c

-- a character from U+10000 on has four bytes
pub size_two : (c : ℕ) → 0x10000 ≤ c → (e : Endian) → length (utf16 e c) ≡ 4
size_two c h e = ap length (two_units e c h) ∙ length-two e (high_unit c) (low_unit c)

-- no character has more than four bytes
pub four_at_most : (e : Endian) (c : ℕ) → length (utf16 e c) ≤ 4
four_at_most e c = elim (cases_lt c 0x10000) [
  | inl l ↦ omega (arith, size_one c l e)
  | inr l ↦ omega (arith, size_two c l e)
]

-- a unit that is no surrogate is a scalar
pub scalar_one : (u : ℕ) → u < 0x10000 → (IsHighUnit u → ⊥) → (IsLowUnit u → ⊥) → IsScalar u
scalar_one u few high low = (omega arith, λ h. omega (arith, high, low))

-- the character of a pair is a scalar
pub pair_scalar : (high low c : ℕ) → IsHighUnit high → IsPair high low c → IsScalar c
pair_scalar high low c h p = (omega (arith, p.first, h), λ e. omega (arith, p.above))

-- the character of a high and a low surrogate
abbrev pub paired : ℕ → ℕ → ℕ
paired high low = 0x10000 + (high % 0x400) * 0x400 + low % 0x400

-- a high and a low surrogate are the units of their character
pub paired_is : (high low : ℕ) → IsHighUnit high → IsLowUnit low → IsPair high low (paired high low)
paired_is high low h l = record { above = omega arith; first = omega (arith, h, l); second = omega (arith, h, l) }

-- A scalar of one unit, which is no surrogate.
pub record IsOne (e : Endian) (c : ℕ) : Type 0 where
  pub few : c < 0x10000
  pub no_high : IsHighUnit c → ⊥
  pub no_low : IsLowUnit c → ⊥
  pub bytes : utf16 e c ≡ unit_of (Two e) c

-- A scalar of two units, a high and a low surrogate.
pub record IsTwo (e : Endian) (c : ℕ) : Type 0 where
  pub above : 0x10000 ≤ c
  pub high : IsHighUnit (high_unit c)
  pub low : IsLowUnit (low_unit c)
  pub bytes : utf16 e c ≡ unit_of (Two e) (high_unit c) ++ unit_of (Two e) (low_unit c)

-- each scalar is of one or of two units
pub one_or_two : (e : Endian) (c : ℕ) → IsScalar c → IsOne e c ⊎ IsTwo e c
one_or_two e c s = elim (cases_lt c 0x10000) [
  | inl l ↦ inl (record {
    few = l;
    no_high = λ h. omega (arith, h, s.1 (omega (arith, h)));
    no_low = λ h. omega (arith, h, s.1 (omega (arith, h)));
    bytes = one_unit e c l;
  })
  | inr l ↦ inr (record { above = l; high = omega (arith, s.0, l); low = omega (arith, l); bytes = two_units e c l })
]

-- a unit that is at an index is within the text
pub unit_within : (e : Endian) (text : List ℕ) (at u : ℕ) → IsUnitAt (Two e) text at u → at + 2 ≤ length text
unit_within e text at u p = omega
    (arith, Begins-length (unit_of (Two e) u) (drop at text) p.stands, length-unit_of (Two e) u, length-drop at text)

-- a unit that is no surrogate spells its character
pub one_spelled : (e : Endian) (text : List ℕ) (at u : ℕ) → IsUnitAt (Two e) text at u → (IsHighUnit u → ⊥)
    → (IsLowUnit u → ⊥) → IsFormAt (utf16 e) text at u 2
one_spelled e text at u p high low = (
  scalar_one u p.few high low,
  subst (λ (w : List ℕ). Begins w (drop at text)) (sym (one_unit e u p.few)) p.stands,
  sym (size_one u p.few e),
)

behind : (e : Endian) (u : ℕ) (text : List ℕ) (at : ℕ)
    → drop (at + 2) text ≡ drop (length (unit_of (Two e) u)) (drop at text)
behind e u text at = sym (drop-drop 2 at text) ∙ ap (λ (n : ℕ). drop n (drop at text)) (sym (length-unit_of (Two e) u))

-- the character of a pair is next if its units are
pub pair_stands : (e : Endian) (text : List ℕ) (at high low c : ℕ) → IsUnitAt (Two e) text at high
    → IsUnitAt (Two e) text (at + 2) low → IsPair high low c → Begins (utf16 e c) (drop at text)
pair_stands e text at high low c p q pair =
    let second : Begins (unit_of (Two e) low) (drop (length (unit_of (Two e) high)) (drop at text)) =
    subst (λ (x : List ℕ). Begins (unit_of (Two e) low) x) (behind e high text at) q.stands in
    subst (λ (w : List ℕ). Begins w (drop at text)) (sym (pair_bytes e high low c pair))
    (Begins-join (unit_of (Two e) high) (unit_of (Two e) low) (drop at text) p.stands second)

-- the character of a pair is spelled where its units are
pub pair_spelled : (e : Endian) (text : List ℕ) (at high low c : ℕ) → IsUnitAt (Two e) text at high
    → IsUnitAt (Two e) text (at + 2) low → IsHighUnit high → IsPair high low c → IsFormAt (utf16 e) text at c 4
pair_spelled e text at high low c p q h pair =
    (pair_scalar high low c h pair, pair_stands e text at high low c p q pair, sym (pair_size e high low c pair))

pub ruleset spelled = (scalar_one, pair_scalar, one_spelled, pair_spelled)
