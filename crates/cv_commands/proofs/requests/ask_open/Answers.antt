use Rattle.std.proofs.Common.{ap}
use Rattle.std.proofs.lemmas.Result.{err_from_is_err_and}
use Rattle.cv_frame.specs.Ops.{op_open}
use Rattle.cv_commands.specs.Commands.{with_op}
use Rattle.cv_commands.proofs.Sent.{same, fails, sends_none}
use Rattle.cv_commands.proofs.Commands.{open_is, open_no_target, open_no_source, open_none, open_one}
use Rattle.cv_commands.proofs.requests.ask_open.Goals as goal

pub returns-in_default : goal.returns-in_default
returns-in_default c = sends_none _ _ _ (ap (with_op op_open) (open_none _ c.in_default.ensures.none))

pub returns-in_default-next_word : goal.returns-in_default-next_word
returns-in_default-next_word c = sends_none _ _ _
    (ap (with_op op_open) (open_one _ _ _ c.in-Some.ensures.some.0 c.in_default-next_word.ensures.none))

pub returns-in_err-to : goal.returns-in_err-to
returns-in_err-to c = let p = err_from_is_err_and c.from_residual.result c.from_residual.ensures.1 in
    rw (p.1, p.2) (fails _ _ _ _ _ _ c.in_err-to.ensures.says (λ e. sends_none _ _ _
    (ap (with_op op_open) (open_no_target _ _ _ _ _ c.in-Some.ensures.some.0 c.in-Some-next_word.ensures.some.0 e))))

pub returns-in_err-name : goal.returns-in_err-name
returns-in_err-name c = let p =
    err_from_is_err_and c.from_residual-in_err-name.result c.from_residual-in_err-name.ensures.1 in rw (p.1, p.2)
    (fails _ _ _ _ _ _ c.in_err-name.ensures.says (λ e. sends_none _ _ _ (ap (with_op op_open) (open_no_source _ _ _ _ _
    _ c.in-Some.ensures.some.0 c.in-Some-next_word.ensures.some.0 c.in_ok-to.ensures.says e))))

pub returns-in_err-policy : goal.returns-in_err-policy
returns-in_err-policy c = let p =
    err_from_is_err_and c.from_residual-in_err-policy.result c.from_residual-in_err-policy.ensures.1 in rw (p.1, p.2)
    (fails _ _ _ _ _ _ c.in_err-policy.ensures (λ e. sends_none _ _ _ (ap (with_op op_open) (open_is _ _ _ _ _ _ _ _
    c.in-Some.ensures.some.0 c.in-Some-next_word.ensures.some.0 c.in_ok-to.ensures.says c.in_ok-name.ensures.says e))))

pub returns : goal.returns
returns c = same _ _ _ _ _ _ _
    (ap (with_op op_open) (open_is _ _ _ _ _ _ _ _ c.in-Some.ensures.some.0 c.in-Some-next_word.ensures.some.0
    c.in_ok-to.ensures.says c.in_ok-name.ensures.says c.in_ok-policy.ensures)) c.send.ensures
