-- What was put at an index, and more after it.
use Rattle.std.proofs.Common.{◌≡◌, ℕ, ◌+◌, ◌≤◌, List, ◌++◌, length, take, drop, refl, sym, ◌∙◌, ap, subst, arith}
use Rattle.std.proofs.Common.{length-append, length-take, length-drop, append_assoc}
use Rattle.cv_base.specs.Places.{IsPut}
use Rattle.cv_base.specs.Units.{high_unit, low_unit, unit_of}
use Rattle.cv_base.specs.declared.ascii_form.AsciiForm.TheVariants.{Two}
use Rattle.cv_base.specs.declared.endian.Endian.{Endian}
use Rattle.cv_base.proofs.WrittenEach.{out_more}
use Rattle.cv_block.proofs.UnitBytes.{length-unit_of}
use Rattle.cv_utf16.specs.Utf16.{utf16}
use Rattle.cv_utf16.proofs.Utf16Units.{pair_bytes, length-two}

-- both were put
pub put_both : (a b before mid after : List ℕ) (at n m place : ℕ) → place ≡ at + n → IsPut a before at n mid
    → IsPut b mid place m after → IsPut (a ++ b) before at (n + m) after
put_both a b before mid after at n m place e p q =
    let front : List ℕ = take at before ++ a in
    let long : place ≡ length front =
    omega (arith, length-append (take at before) a, length-take at before, p.wrote, p.fits, e) in
    let size : length mid ≡ length before = omega (
      arith,
      ap length p.out,
      length-append front (drop (at + n) before),
      length-append (take at before) a,
      length-take at before,
      length-drop (at + n) before,
      p.fits,
      p.wrote,
    ) in
    let mid_is : mid ≡ front ++ drop place before = p.out ∙ rw e refl in
    let wide : length b ≡ m = sym q.wrote in
    let wrote : after ≡ (front ++ b) ++ drop (place + m) before = q.out
    ∙ rw mid_is (rw wide at (out_more front b before place long)) in
    let there : place + m ≡ at + (n + m) = omega (arith, e) in
    record {
      wrote = omega (arith, length-append a b, p.wrote, q.wrote);
      fits = omega (arith, q.fits, size, e);
      out = wrote ∙ rw (append_assoc (take at before) a b, there) refl;
    }

-- two units were put
pub units_put : (e : Endian) (c first second : ℕ) (before mid after : List ℕ) (at : ℕ) → 0x10000 ≤ c
    → first ≡ high_unit c → second ≡ low_unit c → at + length (utf16 e c) ≤ length before
    → mid ≡ take at before ++ unit_of (Two e) first ++ drop (at + 2) before → after ≡ take (at + 2) mid
    ++ unit_of (Two e) second ++ drop (at + 2 + 2) mid → IsPut (utf16 e c) before at (length (utf16 e c)) after
units_put e c first second before mid after at above h l fits p q =
    let bytes : utf16 e c ≡ unit_of (Two e) first ++ unit_of (Two e) second =
    pair_bytes e first second c (record { above = above; first = sym h; second = sym l }) in
    let four : length (utf16 e c) ≡ 4 = ap length bytes ∙ length-two e first second in
    let one : IsPut (unit_of (Two e) first) before at 2 mid =
    record { wrote = sym (length-unit_of (Two e) first); fits = omega (arith, fits, four); out = p } in
    let size : length mid ≡ length before = omega (
      arith,
      ap length p,
      length-append (take at before ++ unit_of (Two e) first) (drop (at + 2) before),
      length-append (take at before) (unit_of (Two e) first),
      length-unit_of (Two e) first,
      length-take at before,
      length-drop (at + 2) before,
      fits,
      four,
    ) in
    let other : IsPut (unit_of (Two e) second) mid (at + 2) 2 after =
    record { wrote = sym (length-unit_of (Two e) second); fits = omega (arith, fits, four, size); out = q } in
    let both : IsPut (unit_of (Two e) first ++ unit_of (Two e) second) before at 4 after =
    put_both (unit_of (Two e) first) (unit_of (Two e) second) before mid after at 2 2 (at + 2) refl one other in
    subst (λ (w : List ℕ). IsPut w before at (length w) after) (sym bytes) (subst (λ (n : ℕ).
    IsPut (unit_of (Two e) first ++ unit_of (Two e) second) before at n after) (sym (length-two e first second)) both)
