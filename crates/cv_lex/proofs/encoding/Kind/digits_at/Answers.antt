use Rattle.std.proofs.Common.{◌∙◌, ap, take}
use Rattle.std.specs.Char.{is_digit}
use Rattle.cv_lex.specs.Words.{are_digits}
use Rattle.cv_lex.specs.Constants as spec
use Rattle.cv_lex.proofs.Digits.{digits_are, all_digits}
use Rattle.cv_lex.proofs.encoding.Kind.digits_at.Goals as goal

pub returns-clause-value : goal.returns-clause-value
returns-clause-value c = digits_are c.base.result (spec.base_of_kind c.args.self) c.most.result
    (spec.most_digits c.args.self) c.min.result c.digits_len.result c.args.text.now c.base.ensures.value
    c.most.ensures.value c.min.ensures c.digits_len.ensures.value

pub returns-clause-digits : goal.returns-clause-digits
returns-clause-digits c = ap (are_digits (spec.base_of_kind c.args.self)) (digits_are c.base.result
    (spec.base_of_kind c.args.self) c.most.result (spec.most_digits c.args.self) c.min.result c.digits_len.result
    c.args.text.now c.base.ensures.value c.most.ensures.value c.min.ensures c.digits_len.ensures.value)
    ∙ all_digits (λ b. is_digit b (spec.base_of_kind c.args.self)) (take (spec.most_digits c.args.self) c.args.text.now)
