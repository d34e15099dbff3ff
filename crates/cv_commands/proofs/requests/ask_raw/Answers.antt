use Rattle.std.proofs.Common.{ℕ, List, Some, sym, ap, ◌∙◌, arith}
use Rattle.std.proofs.lemmas.Result.{err_from_is_err_and}
use Rattle.cv_commands.specs.Commands.{with_op}
use Rattle.cv_commands.proofs.Sent.{same, fails, fails_long, sends_none}
use Rattle.cv_commands.proofs.Commands.{raw_is, raw_no_number, raw_none, raw_too_long, raw_too_large}
use Rattle.cv_commands.proofs.requests.ask_raw.Goals as goal

pub returns-in_default : goal.returns-in_default
returns-in_default c = sends_none _ _ _ (raw_none _ c.in_default.ensures)

pub returns-in_err-number : goal.returns-in_err-number
returns-in_err-number c = let p = err_from_is_err_and c.from_residual.result c.from_residual.ensures.1 in rw (p.1, p.2)
    (fails _ _ _ _ _ _ c.in_err-number.ensures (λ e. sends_none _ _ _ (raw_no_number _ _ _ c.in-Some.ensures e)))

pub returns-then-number-gt255 : goal.returns-then-number-gt255
returns-then-number-gt255 c = raw_too_large _ _ _ _ _ _ c.in-Some.ensures c.in_ok-number.ensures (omega arith)

pub returns-in_err-body : goal.returns-in_err-body
returns-in_err-body c = let p =
    err_from_is_err_and c.from_residual-in_err-body.result c.from_residual-in_err-body.ensures.1 in rw (p.1, p.2)
    (fails_long _ _ _ _ _ _ c.in_err-body.ensures (raw_too_long _ _ _ _ _ _ c.in-Some.ensures c.in_ok-number.ensures))

pub returns : goal.returns
returns c = same _ _ _ _ _ _ _ (raw_is _ _ _ _ c.in-Some.ensures c.in_ok-number.ensures
    ∙ ap (with_op _) (c.in_ok-body.ensures.0 ∙ ap (λ (b : List ℕ). Some b) (sym c.deref.ensures.value))) c.send.ensures
