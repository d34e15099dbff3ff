use Rattle.std.proofs.Common.{ℕ, ap, sym, drop, ◌∙◌, arith}
use Rattle.std.proofs.lemmas.Bool.{eqb-true, eqb-false}
use Rattle.std.proofs.lemmas.List.{take_rest}
use Rattle.cv_commands.proofs.LineWords.{no_words, next_words}
use Rattle.cv_commands.proofs.lines.next_word.Goals as goal

pub returns-then-is_empty-clause-none : goal.returns-then-is_empty-clause-none
returns-then-is_empty-clause-none c =
    let line = c.args.line.now in
    no_words line _ (take_rest line _ ∙ ap (λ (k : ℕ). drop k line) c.spaces_at.ensures.value)
    (eqb-true _ _ (sym c.is_empty.ensures ∙ c.if-is_empty.true))

pub returns-clause-some : goal.returns-clause-some
returns-clause-some c =
    let line = c.args.line.now in
    let some = eqb-false _ _ (sym c.is_empty.ensures ∙ c.if-is_empty.false) in
    next_words line _ c.split_at.result.0.now c.split_at.result.1.now c.bytes_before.result
    (take_rest line _ ∙ ap (λ (k : ℕ). drop k line) c.spaces_at.ensures.value)
    (omega (arith, some)) c.bytes_before.ensures.value c.split_at.ensures.front c.split_at.ensures.back
