use Rattle.std.proofs.Common.{ap}
use Rattle.std.proofs.lemmas.Result.{err_from_is_err_and}
use Rattle.cv_frame.specs.Ops.{op_close}
use Rattle.cv_commands.specs.Commands.{with_op}
use Rattle.cv_commands.proofs.Sent.{same, fails, sends_none}
use Rattle.cv_commands.proofs.Commands.{close_is, close_none}
use Rattle.cv_commands.proofs.requests.ask_close.Goals as goal

pub returns-in_default : goal.returns-in_default
returns-in_default c = sends_none _ _ _ (ap (with_op op_close) (close_none _ c.in_default.ensures))

pub returns-in_err-number : goal.returns-in_err-number
returns-in_err-number c = let p = err_from_is_err_and c.from_residual.result c.from_residual.ensures.1 in
    rw (p.1, p.2) (fails _ _ _ _ _ _ c.in_err-number.ensures
    (λ e. sends_none _ _ _ (ap (with_op op_close) (close_is _ _ _ c.in-Some.ensures e))))

pub returns : goal.returns
returns c =
    same _ _ _ _ _ _ _ (ap (with_op op_close) (close_is _ _ _ c.in-Some.ensures c.in_ok-number.ensures)) c.send.ensures
