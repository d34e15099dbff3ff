use Rattle.std.proofs.Common.{sym, ◌∙◌, arith}
use Rattle.std.proofs.lemmas.Int.Digits.{digits_value_more}
use Rattle.cv_commands.proofs.Numbers.{number_stops, digits_more, number_done}
use Rattle.cv_commands.proofs.lines.decimal.Goals as goal

pub returns-in_err-number : goal.returns-in_err-number
returns-in_err-number c =
    let is = c.loop-digit.invariant.is in
    c.from_residual.ensures ∙ sym (number_stops c.args.word.now c.loop-digit.digit-index c.loop-digit-test.true
    (λ e. let large = c.in_err-number.ensures.none e in omega (arith, is, large)))

pub loop-digit-preserved : goal.loop-digit-preserved
loop-digit-preserved c =
    let some = c.in_ok-number.ensures.some in
    record {
      is = omega (
        arith,
        digits_value_more 10 c.args.word.now c.loop-digit.digit-index c.loop-digit-test.true,
        c.loop-digit.invariant.is,
        some.1,
      );
      digits = digits_more c.args.word.now c.loop-digit.digit-index c.loop-digit-test.true c.loop-digit.invariant.digits
          some.0;
      small = some.2;
    }

pub returns : goal.returns
returns c =
    let i = c.loop-digit.invariant in
    sym (number_done c.args.word.now c.loop-digit.digit-index c.loop-digit.number c.loop-digit-test.false i.is i.digits
    i.small)
