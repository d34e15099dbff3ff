use Rattle.std.proofs.lemmas.Result.{err_from_is_err_and}
use Rattle.cv_commands.proofs.Sent.{same_request, fails}
use Rattle.cv_commands.proofs.CommandLines.{request_none, request_one, request_short, request_no_caller}
use Rattle.cv_commands.proofs.CommandLines.{request_no_tag, request_is}
use Rattle.cv_commands.proofs.script.ask_line.Goals as goal

pub returns-in_default : goal.returns-in_default
returns-in_default c = request_none _ c.in_default.ensures.none

pub returns-in_default-next_word : goal.returns-in_default-next_word
returns-in_default-next_word c = request_one _ _ _ c.in-Some.ensures.some.0 c.in_default-next_word.ensures.none

pub returns-in_default-next_word-2 : goal.returns-in_default-next_word-2
returns-in_default-next_word-2 c = request_short _ _ _ _ _ c.in-Some.ensures.some.0 c.in-Some-next_word.ensures.some.0
    c.in_default-next_word-2.ensures.none

pub returns-in_err-caller : goal.returns-in_err-caller
returns-in_err-caller c = let p = err_from_is_err_and c.from_residual.result c.from_residual.ensures.1 in
    rw (p.1, p.2) (fails _ _ _ _ _ _ c.in_err-caller.ensures (λ e. request_no_caller _ _ _ _ _ _ _ (record {
      one = c.in-Some.ensures.some;
      two = c.in-Some-next_word.ensures.some;
      three = c.in-Some-next_word-2.ensures.some;
    }) e))

pub returns-in_err-tag : goal.returns-in_err-tag
returns-in_err-tag c =
    let p = err_from_is_err_and c.from_residual-in_err-tag.result c.from_residual-in_err-tag.ensures.1 in
    rw (p.1, p.2) (fails _ _ _ _ _ _ c.in_err-tag.ensures (λ e. request_no_tag _ _ _ _ _ _ _ _ (record {
      one = c.in-Some.ensures.some;
      two = c.in-Some-next_word.ensures.some;
      three = c.in-Some-next_word-2.ensures.some;
    }) c.in_ok-caller.ensures e))

pub returns : goal.returns
returns c = same_request _ _ _ _ _ (request_is _ _ _ _ _ _ _ _ _ (record {
  one = c.in-Some.ensures.some;
  two = c.in-Some-next_word.ensures.some;
  three = c.in-Some-next_word-2.ensures.some;
}) c.in_ok-caller.ensures c.in_ok-tag.ensures) c.ask_command.ensures
