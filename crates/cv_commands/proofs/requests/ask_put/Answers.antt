use Rattle.std.proofs.lemmas.Result.{err_from_is_err_and}
use Rattle.cv_commands.proofs.Sent.{fails_long, sends_no_long}
use Rattle.cv_commands.proofs.requests.ask_put.Goals as goal

pub returns-in_err-text : goal.returns-in_err-text
returns-in_err-text c = let p = err_from_is_err_and c.from_residual.result c.from_residual.ensures.1 in
    rw (p.1, p.2) (fails_long _ _ _ _ _ _ c.in_err-text.ensures (sends_no_long _ _ _ _))
