use Rattle.std.proofs.Common.{arith, refl, take, drop}
use Rattle.std.proofs.lemmas.Simd.{get_or-chunk}
use Rattle.cv_utf7.proofs.DigitUnits.{value_few, values_are}
use Rattle.cv_utf7.proofs.SixteenDigits.{are_held, front_stays, part_read, reads_whole}
use Rattle.cv_utf7.proofs.read.sixteen_digits.read_six.Goals as goal

pub units_of-requires : goal.units_of-requires
units_of-requires c =
    let v = c.digit_values-values.result in
    let p = values_are c.args.input.now (take 16 (drop c.args.at c.args.input.now)) v v c.args.at 16 (omega arith)
    c.requires.within c.requires.digits (λ i h l. get_or-chunk c.args.at 16 c.args.input.now i 0 h)
    c.digit_values-values.ensures (λ i h. refl) in
    λ i h. value_few p i h

pub returns : goal.returns
returns c =
    let v = c.digit_values-values.result in
    let p = values_are c.args.input.now (take 16 (drop c.args.at c.args.input.now)) v v c.args.at 16 (omega arith)
    c.requires.within c.requires.digits (λ i h l. get_or-chunk c.args.at 16 c.args.input.now i 0 h)
    c.digit_values-values.ensures (λ i h. refl) in
    let put = c.put_units.ensures.put c.if-not-put_units.false in
    let held = are_held c.args.input.now v c.units_of.result c.args.buffer.now c.put_units.new.buffer c.args.at 16
    c.args.n p c.units_of.ensures (omega arith) c.requires.room c.put_units.auto.buffer put
    (c.put_units.ensures.scalars c.if-not-put_units.false) in
    let part = part_read 6 _ _ _ _ _ _ _ c.args.pending held c.requires.nothing (omega arith, omega arith)
    (omega arith) (omega arith) in (
      reads_whole _ _ c.args.buffer.now _ _ _ _ _ _ part refl (omega arith) (omega arith) c.put_units.auto.buffer
          (front_stays _ _ _ _ c.requires.room put),
      omega arith,
    )
