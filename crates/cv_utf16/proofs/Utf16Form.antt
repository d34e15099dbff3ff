-- UTF-16 is an encoding form with a byte order.
use Rattle.std.proofs.Common.{◌≡◌, ℕ, ◌<◌, inl, inr, ◌/◌, List, [], ◌∷◌, length, drop, ◌∙◌, ap, subst, arith}
use Rattle.std.proofs.lemmas.Bool.{cases_lt}
use Rattle.cv_base.specs.Scalars.{IsScalar}
use Rattle.cv_base.specs.Items.{Begins}
use Rattle.cv_base.specs.Units.{high_unit, low_unit, unit_of}
use Rattle.cv_base.specs.declared.ascii_form.AsciiForm.TheVariants.{Two}
use Rattle.cv_base.specs.declared.endian.Endian.{Endian}
use Rattle.cv_base.specs.declared.endian.Endian.TheVariants.{Big}
use Rattle.cv_base.proofs.Front.{Begins-front, Begins-back}
use Rattle.cv_block.proofs.UnitBytes.{one_number, length-unit_of}
use Rattle.cv_utf16.specs.Private.Forms.{IsUnique, IsForm}
use Rattle.cv_utf16.specs.Utf16.{utf16}
use Rattle.cv_utf16.proofs.Utf16Units.{IsOne, IsTwo, one_or_two, size_one, size_two, four_at_most}

-- What begins a text with a scalar of two units: its high surrogate, and the low one after it.
record Pair (e : Endian) (text : List ℕ) (c : ℕ) : Type 0 where
  first : Begins (unit_of (Two e) (high_unit c)) text
  second : Begins (unit_of (Two e) (low_unit c)) (drop 2 text)

units_stand : (e : Endian) (text : List ℕ) (c : ℕ) → IsTwo e c → Begins (utf16 e c) text → Pair e text c
units_stand e text c t f =
    let g = subst (λ (w : List ℕ). Begins w text) t.bytes f in
    let back = Begins-back (unit_of (Two e) (high_unit c)) (unit_of (Two e) (low_unit c)) text g in
    record {
      first = Begins-front (unit_of (Two e) (high_unit c)) (unit_of (Two e) (low_unit c)) text g;
      second = subst (λ (n : ℕ). Begins (unit_of (Two e) (low_unit c)) (drop n text))
          (length-unit_of (Two e) (high_unit c)) back;
    }

unit_stands : (e : Endian) (text : List ℕ) (c : ℕ) → IsOne e c → Begins (utf16 e c) text
    → Begins (unit_of (Two e) c) text
unit_stands e text c o f = subst (λ (w : List ℕ). Begins w text) o.bytes f

one_scalar : (e : Endian) (text : List ℕ) (c d : ℕ) → IsScalar c → IsScalar d → Begins (utf16 e c) text
    → Begins (utf16 e d) text → c ≡ d
one_scalar e text c d s t f g =
    elim (one_or_two e c s) [
      | inl o ↦ elim (one_or_two e d t) [
        | inl p ↦ one_number (Two e) text c d (unit_stands e text c o f) (unit_stands e text d p g)
        | inr p ↦ (let h : c ≡ high_unit d = one_number (Two e) text c (high_unit d) (unit_stands e text c o f)
            (units_stand e text d p g).first in absurd (o.no_high (ap (λ u. u / 0x400) h ∙ p.high)))
      ]
      | inr o ↦ elim (one_or_two e d t) [
        | inl p ↦ (let h : d ≡ high_unit c = one_number (Two e) text d (high_unit c) (unit_stands e text d p g)
            (units_stand e text c o f).first in absurd (p.no_high (ap (λ u. u / 0x400) h ∙ o.high)))
        | inr p ↦ (
            let a = units_stand e text c o f in
            let b = units_stand e text d p g in
            let high : high_unit c ≡ high_unit d =
            one_number (Two e) text (high_unit c) (high_unit d) a.first b.first in
            let low : low_unit c ≡ low_unit d =
            one_number (Two e) (drop 2 text) (low_unit c) (low_unit d) a.second b.second in
            omega (arith, high, low, o.above, p.above))
      ]
    ]

some_bytes : (e : Endian) (c : ℕ) → 0 < length (utf16 e c)
some_bytes e c = elim (cases_lt c 0x10000) [
  | inl l ↦ omega (arith, size_one c l e)
  | inr l ↦ omega (arith, size_two c l e)
]

is_unique : (e : Endian) → IsUnique (utf16 e)
is_unique e = record { one = one_scalar e; some = some_bytes e; few = four_at_most e }

marks_apart : (text : List ℕ) → Begins (0xfe ∷ 0xff ∷ []) text → Begins (0xff ∷ 0xfe ∷ []) text → ⊥
marks_apart [] f g = f
marks_apart (t ∷ text) f g = omega (arith, f.0, g.0)

-- UTF-16 is an encoding form: U+FFFE is the big-endian character that its little-endian mark would be
pub utf16_is_form : IsForm utf16
utf16_is_form = record {
  unique = is_unique;
  marks = marks_apart;
  little_alone = λ text c s f g. ap (utf16 Big) (one_scalar Big text c 0xFFFE s (omega arith, λ h. omega arith) f g);
}
