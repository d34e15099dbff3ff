use Rattle.std.proofs.Common.{ap}
use Rattle.std.proofs.lemmas.Result.{err_from_is_err_and}
use Rattle.cv_frame.specs.Ops.{op_drop}
use Rattle.cv_commands.specs.Commands.{with_op}
use Rattle.cv_commands.proofs.Sent.{same, fails, sends_none}
use Rattle.cv_commands.proofs.Commands.{drop_is, drop_none}
use Rattle.cv_commands.proofs.requests.ask_drop.Goals as goal

pub returns-in_default : goal.returns-in_default
returns-in_default c = sends_none _ _ _ (ap (with_op op_drop) (drop_none _ c.in_default.ensures))

pub returns-in_err-name : goal.returns-in_err-name
returns-in_err-name c = let p = err_from_is_err_and c.from_residual.result c.from_residual.ensures.1 in
    rw (p.1, p.2) (fails _ _ _ _ _ _ c.in_err-name.ensures.says
    (λ e. sends_none _ _ _ (ap (with_op op_drop) (drop_is _ _ _ c.in-Some.ensures e))))

pub returns : goal.returns
returns c =
    same _ _ _ _ _ _ _ (ap (with_op op_drop) (drop_is _ _ _ c.in-Some.ensures c.in_ok-name.ensures.says)) c.send.ensures
