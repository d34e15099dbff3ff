-- The bytes of a unit.
use Rattle.std.proofs.Common.{◌≡◌, ℕ, ◌+◌, ◌%◌, ◌<◌, ◌≤◌, List, length, drop, get_or, get_or-drop, refl, sym, ◌∙◌}
use Rattle.std.proofs.Common.{arith}
use Rattle.cv_base.specs.Items.{Begins}
use Rattle.cv_base.specs.Units.{unit_of, unit_size, unit_limit}
use Rattle.cv_base.specs.declared.ascii_form.AsciiForm.{AsciiForm}
use Rattle.cv_base.specs.declared.ascii_form.AsciiForm.TheVariants.{Byte, Two, Four}
use Rattle.cv_base.specs.declared.endian.Endian.TheVariants.{Big, Little}
use Rattle.cv_base.proofs.Front.{Begins-agree}
use Rattle.cv_block.specs.AsciiRuns.{offset, IsBelowAt}
use Rattle.cv_block.specs.Units.{IsUnitAt}

-- a unit has its form's size
pub length-unit_of : (form : AsciiForm) (u : ℕ) → length (unit_of form u) ≡ unit_size form
length-unit_of Byte u = refl
length-unit_of (Two Big) u = refl
length-unit_of (Two Little) u = refl
length-unit_of (Four Big) u = refl
length-unit_of (Four Little) u = refl

-- a unit has some bytes
pub some_bytes : (form : AsciiForm) → 0 < unit_size form
some_bytes Byte = omega arith
some_bytes (Two endian) = omega arith
some_bytes (Four endian) = omega arith

-- a unit has at most four bytes
pub four_at_most : (form : AsciiForm) → unit_size form ≤ 4
four_at_most Byte = omega arith
four_at_most (Two endian) = omega arith
four_at_most (Four endian) = omega arith

-- every byte is one unit of each form
pub byte_fits : (form : AsciiForm) (c : ℕ) → c < 0x100 → c < unit_limit form
byte_fits Byte c h = omega arith
byte_fits (Two endian) c h = omega arith
byte_fits (Four endian) c h = omega arith

-- Two numbers whose units begin one text, byte by byte.
abbrev Same : AsciiForm → Type 0
Same form = (text : List ℕ) (u v : ℕ) → Begins (unit_of form u) text → Begins (unit_of form v) text → (k : ℕ)
    → k < unit_size form → get_or (unit_of form u) k 0 ≡ get_or (unit_of form v) k 0

same_bytes : (form : AsciiForm) → Same form
same_bytes form text u v p q k h =
    let x = Begins-agree (unit_of form u) text p in
    let y = Begins-agree (unit_of form v) text q in
    let a = length-unit_of form u in
    let b = length-unit_of form v in
    x.1 k (omega (arith, a)) (omega (arith, a, x.0)) ∙ sym (y.1 k (omega (arith, b)) (omega (arith, b, y.0)))

-- the bytes at an index are the unit of one number only
pub one_number : (form : AsciiForm) (text : List ℕ) (u v : ℕ) → Begins (unit_of form u) text
    → Begins (unit_of form v) text → u ≡ v
one_number Byte text u v p q = same_bytes Byte text u v p q 0 (omega arith)
one_number (Two Big) text u v p q = let at = same_bytes (Two Big) text u v p q in
    omega (arith, at 0 (omega arith), at 1 (omega arith))
one_number (Two Little) text u v p q = let at = same_bytes (Two Little) text u v p q in
    omega (arith, at 0 (omega arith), at 1 (omega arith))
one_number (Four Big) text u v p q = let at = same_bytes (Four Big) text u v p q in
    omega (arith, at 0 (omega arith), at 1 (omega arith), at 2 (omega arith), at 3 (omega arith))
one_number (Four Little) text u v p q = let at = same_bytes (Four Little) text u v p q in
    omega (arith, at 0 (omega arith), at 1 (omega arith), at 2 (omega arith), at 3 (omega arith))

byte_at : (bytes text : List ℕ) (at k : ℕ) → Begins bytes (drop at text) → k < length bytes
    → get_or bytes k 0 ≡ get_or text (at + k) 0
byte_at bytes text at k p h = let a = Begins-agree bytes (drop at text) p in
    rw get_or-drop at (a.1 k h (omega (arith, a.0)))

-- the lowest byte of a unit at an index
pub low_byte : (form : AsciiForm) (text : List ℕ) (at u : ℕ) → IsUnitAt form text at u
    → u % 0x100 ≡ get_or text (at + offset form) 0
low_byte Byte text at u p = (let e : u % 0x100 ≡ u = omega (arith, p.few) in e)
    ∙ byte_at (unit_of Byte u) text at 0 p.stands (omega arith)
low_byte (Two Big) text at u p = byte_at (unit_of (Two Big) u) text at 1 p.stands (omega arith)
low_byte (Two Little) text at u p = byte_at (unit_of (Two Little) u) text at 0 p.stands (omega arith)
low_byte (Four Big) text at u p = byte_at (unit_of (Four Big) u) text at 3 p.stands (omega arith)
low_byte (Four Little) text at u p = byte_at (unit_of (Four Little) u) text at 0 p.stands (omega arith)

-- a unit below a limit is that of a character below it
pub below_at : (limit : ℕ) (form : AsciiForm) (text : List ℕ) (at u : ℕ) → IsUnitAt form text at u → u < limit
    → IsBelowAt limit form text at
below_at limit form text at u p h = record { c = u; small = h; stands = p.stands }
