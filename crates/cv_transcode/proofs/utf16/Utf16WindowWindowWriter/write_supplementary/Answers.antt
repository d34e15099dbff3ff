use Rattle.std.proofs.Common.{◌≡◌, arith, subst, length, ℕ}
use Rattle.cv_base.specs.Places.{IsPut}
use Rattle.cv_utf16.specs.Utf16.{utf16}
use Rattle.cv_utf16.proofs.PutTwice.{units_put}
use Rattle.cv_utf16.proofs.Utf16Units.{size_two}
use Rattle.cv_transcode.proofs.utf16.Utf16WindowWindowWriter.write_supplementary.Goals as goal

pub returns : goal.returns
returns g c =
    let e = g.O.ByteOrder.endian in
    let four : length (utf16 e c.args.value) ≡ 4 = size_two c.args.value c.requires.supplementary e in
    subst (λ (n : ℕ). IsPut (utf16 e c.args.value) c.args.out.now c.args.at n c.write_two-2.new.out) four
    (units_put e c.args.value c.lead_surrogate.result c.trail_surrogate.result c.args.out.now c.write_two.new.out
    c.write_two-2.new.out c.args.at c.requires.supplementary
    (c.lead_surrogate.ensures.high c.requires.supplementary)
    (c.trail_surrogate.ensures.low c.requires.supplementary) (omega (arith, c.requires.room, four))
    c.write_two.ensures c.write_two-2.ensures)
