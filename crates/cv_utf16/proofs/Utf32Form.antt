-- UTF-32 is an encoding form with a byte order.
use Rattle.std.proofs.Common.{◌≡◌, ℕ, ◌/◌, ◌%◌, ◌≤◌, List, [], ◌∷◌, length, sym, ◌∙◌, arith}
use Rattle.cv_base.specs.Scalars.{IsScalar}
use Rattle.cv_base.specs.Items.{Begins}
use Rattle.cv_base.specs.declared.ascii_form.AsciiForm.TheVariants.{Four}
use Rattle.cv_base.specs.declared.endian.Endian.{Endian}
use Rattle.cv_base.specs.declared.endian.Endian.TheVariants.{Big, Little}
use Rattle.cv_block.proofs.UnitBytes.{one_number, length-unit_of}
use Rattle.cv_utf16.specs.Orders.{mark}
use Rattle.cv_utf16.specs.Private.Forms.{IsUnique, IsForm}
use Rattle.cv_utf16.specs.Utf32.{utf32}

-- each scalar has four bytes
pub size_four : (e : Endian) (c : ℕ) → length (utf32 e c) ≡ 4
size_four e c = length-unit_of (Four e) c

-- no scalar has more than four bytes
pub four_bytes : (e : Endian) (c : ℕ) → length (utf32 e c) ≤ 4
four_bytes e c = omega (arith, size_four e c)

is_unique : (e : Endian) → IsUnique (utf32 e)
is_unique e = record {
  one = λ text c d s t f g. one_number (Four e) text c d f g;
  some = λ c. omega (arith, size_four e c);
  few = four_bytes e;
}

first_byte : (a b : ℕ) (w v text : List ℕ) → Begins (a ∷ w) text → Begins (b ∷ v) text → a ≡ b
first_byte a b w v [] f g = absurd f
first_byte a b w v (t ∷ text) f g = f.0 ∙ sym g.0

-- no scalar begins with the first byte of the little-endian mark
not_little : (text : List ℕ) (c : ℕ) → IsScalar c → Begins (utf32 Big c) text → Begins (utf32 Little mark) text → ⊥
not_little text c s f g = omega (
  arith,
  s.0,
  first_byte (c / 0x1000000) 0xff (c / 0x10000 % 0x100 ∷ c / 0x100 % 0x100 ∷ c % 0x100 ∷ [])
      (0xfe ∷ 0 ∷ 0 ∷ []) text f g,
)

marks_apart : (text : List ℕ) → Begins (utf32 Big mark) text → Begins (utf32 Little mark) text → ⊥
marks_apart text f g = omega (arith, first_byte 0 0xff (0 ∷ 0xfe ∷ 0xff ∷ []) (0xfe ∷ 0 ∷ 0 ∷ []) text f g)

-- UTF-32 is an encoding form
pub utf32_is_form : IsForm utf32
utf32_is_form = record {
  unique = is_unique;
  marks = marks_apart;
  little_alone = λ text c s f g. absurd (not_little text c s f g);
}
