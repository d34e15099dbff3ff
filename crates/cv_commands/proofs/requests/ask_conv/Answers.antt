use Rattle.std.proofs.Common.{ℕ, List, Some, sym, ap, ◌∙◌}
use Rattle.std.proofs.lemmas.Result.{err_from_is_err_and}
use Rattle.cv_frame.specs.Ops.{op_conv}
use Rattle.cv_commands.specs.Commands.{with_op}
use Rattle.cv_commands.proofs.Sent.{same, fails, fails_long, sends_none}
use Rattle.cv_commands.proofs.Commands.{conv_is, conv_no_number, conv_no_room, conv_none, conv_too_long}
use Rattle.cv_commands.proofs.requests.ask_conv.Goals as goal

pub returns-in_default : goal.returns-in_default
returns-in_default c = sends_none _ _ _ (ap (with_op op_conv) (conv_none _ c.in_default.ensures))

pub returns-in_err-number : goal.returns-in_err-number
returns-in_err-number c = let p = err_from_is_err_and c.from_residual.result c.from_residual.ensures.1 in
    rw (p.1, p.2) (fails _ _ _ _ _ _ c.in_err-number.ensures
    (λ e. sends_none _ _ _ (ap (with_op op_conv) (conv_no_number _ _ _ _ c.in-Some.ensures e))))

pub returns-in_err-room : goal.returns-in_err-room
returns-in_err-room c = let p = err_from_is_err_and c.from_residual-in_err-room.result
    c.from_residual-in_err-room.ensures.1 in rw (p.1, p.2) (fails _ _ _ _ _ _ c.in_err-room.ensures
    (λ e. sends_none _ _ _ (ap (with_op op_conv) (conv_no_room _ _ _ _ _ c.in-Some.ensures c.in_ok-number.ensures e))))

pub returns-in_err-input : goal.returns-in_err-input
returns-in_err-input c = let p = err_from_is_err_and c.from_residual-in_err-input.result
    c.from_residual-in_err-input.ensures.1 in rw (p.1, p.2) (fails_long _ _ _ _ _ _ c.in_err-input.ensures
    (conv_too_long _ _ _ _ _ _ _ _ c.in-Some.ensures c.in_ok-number.ensures c.in_ok-room.ensures))

pub returns : goal.returns
returns c = same _ _ _ _ _ _ _
    (ap (with_op op_conv) (conv_is _ _ _ _ _ _ _ c.in-Some.ensures c.in_ok-number.ensures c.in_ok-room.ensures
    (c.in_ok-input.ensures.0 ∙ ap (λ (b : List ℕ). Some b) (sym c.deref.ensures.value)))) c.send.ensures
