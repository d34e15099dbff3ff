use Rattle.std.proofs.Common.{arith, refl, ◌∙◌, sym}
use Rattle.std.proofs.lemmas.Grind.{get_or_default_zero}
use Rattle.cv_utf7.proofs.DigitUnits.{values_are, values_few}
use Rattle.cv_utf7.proofs.SixteenDigits.{are_held, front_stays, part_read, reads_ended}
use Rattle.cv_utf7.proofs.read.sixteen_digits.read_sixteen.Goals as goal

pub units_of-requires : goal.units_of-requires
units_of-requires c =
    let p = values_are c.args.input.now c.bytes_from.result c.digit_values.result c.first_values-values.result c.args.at
    c.digit_run-digits.result c.digit_run-digits.ensures.few c.digit_run-digits.ensures.within
    c.digit_run-digits.ensures.digits c.bytes_from.ensures c.digit_values.ensures
    c.first_values-values.ensures.first in
    values_few _ _ _ _ p c.first_values-values.ensures.others

pub returns-then-at-digits : goal.returns-then-at-digits
returns-then-at-digits c =
    front_stays c.units_of.result _ _ _ (omega arith) (c.put_units.ensures.put c.if-not-put_units.false)

pub returns-then-not-ends_sequence : goal.returns-then-not-ends_sequence
returns-then-not-ends_sequence c =
    front_stays c.units_of.result _ _ _ (omega arith) (c.put_units.ensures.put c.if-not-put_units.false)

pub returns : goal.returns
returns c =
    let p = values_are c.args.input.now c.bytes_from.result c.digit_values.result c.first_values-values.result c.args.at
    c.digit_run-digits.result c.digit_run-digits.ensures.few c.digit_run-digits.ensures.within
    c.digit_run-digits.ensures.digits c.bytes_from.ensures c.digit_values.ensures
    c.first_values-values.ensures.first in
    let put = c.put_units.ensures.put c.if-not-put_units.false in
    let held = are_held c.args.input.now c.first_values-values.result c.units_of.result c.args.buffer.now
    c.put_units.new.buffer c.args.at c.digit_run-digits.result c.args.n p c.units_of.ensures (omega arith)
    (omega arith) c.put_units.auto.buffer put (c.put_units.ensures.scalars c.if-not-put_units.false) in
    let part = part_read c.units_in-units.result _ _ _ _ _ _ _ c.args.pending held c.if-pending-ne0.false
    (c.units_in-units.ensures (omega arith)) (omega arith) c.digit_run-digits.ensures.few in
    let holds = c.units_in-units.ensures (omega arith) in
    let few = c.digit_run-digits.ensures.few in (
      reads_ended _ _ c.args.buffer.now _ _ _ _ _ _ _ part
          (omega (arith, c.if-at-digits.false, c.digit_run-digits.ensures.within)) (omega (arith, holds.0, few))
          c.put_units.auto.buffer (front_stays _ _ _ _ (omega arith) put) (held.held c.units_in-units.result
          (omega (arith, holds.0, few))) (sym (get_or_default_zero c.put_units.new.buffer _ c.index-buffer-n.result
          (omega (arith, holds.0, few, held.room))) ∙ sym c.index-buffer-n.is ∙ sym c.value.ensures.number
          ∙ c.if-value-ne0.false) (c.if-not-ends_sequence.ensures.0 refl) c.known.ensures,
      omega arith,
    )
