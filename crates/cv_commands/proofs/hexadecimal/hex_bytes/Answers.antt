use Rattle.std.proofs.Common.{ℕ, List, ◌*◌, Some, refl, sym, ap, ◌∙◌, arith}
use Rattle.std.proofs.lemmas.Bool.{eqb-true, eqb-false}
use Rattle.std.proofs.lemmas.List.{take_rest}
use Rattle.cv_commands.proofs.Numbers.{hyphen_says, digits_say, hex_all, hex_odd}
use Rattle.cv_commands.proofs.Digits.{part_more, part_none}
use Rattle.cv_commands.proofs.hexadecimal.hex_bytes.Goals as goal

pub returns-then-is : goal.returns-then-is
returns-then-is c = ap (λ (x : List ℕ). Some x) c.new.ensures.items
    ∙ sym (hyphen_says c.args.word.now (sym c.is.ensures ∙ c.if-is.true))

pub returns-then-not-branch : goal.returns-then-not-branch
returns-then-not-branch c = sym (digits_say c.args.word.now _ (sym c.is.ensures ∙ c.if-is.false)
    (part_none c.in_ok-push_bytes.field-0 c.args.word.now _ _ c.loop-digits.digits.now (2 * c.min-n.result)
    c.min-n.result c.loop-digits.invariant refl (omega arith) c.in_ok-push_bytes.ensures c.if-not-branch.true))

pub loop-digits-preserved : goal.loop-digits-preserved
loop-digits-preserved c = part_more c.in_ok-push_bytes.field-0 c.args.word.now _ _ c.loop-digits.digits.now _
    (2 * c.min-n.result) c.loop-digits.invariant
    (take_rest c.loop-digits.digits.now (2 * c.min-n.result)) c.in_ok-push_bytes.ensures c.if-not-branch.false

pub returns-then-is_empty : goal.returns-then-is_empty
returns-then-is_empty c = sym (digits_say c.args.word.now _ (sym c.is.ensures ∙ c.if-is.false) (hex_all c.args.word.now
    _ c.loop-digits.digits.now c.loop-digits.invariant (eqb-true _ _ (sym c.is_empty.ensures ∙ c.if-is_empty.true))))

pub returns-else-is_empty : goal.returns-else-is_empty
returns-else-is_empty c = sym
    (digits_say c.args.word.now _ (sym c.is.ensures ∙ c.if-is.false) (hex_odd c.args.word.now _ c.loop-digits.digits.now
    c.loop-digits.invariant c.loop-digits-test.false (eqb-false _ _ (sym c.is_empty.ensures ∙ c.if-is_empty.false))))
