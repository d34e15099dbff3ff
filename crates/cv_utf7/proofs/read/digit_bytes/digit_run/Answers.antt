use Rattle.std.proofs.Common.{sym, ◌+◌, ◌∙◌}
use Rattle.cv_utf7.proofs.DigitLanes.{digit_in}
use Rattle.cv_utf7.proofs.read.digit_bytes.digit_run.Goals as goal

pub returns-clause-digits : goal.returns-clause-digits
returns-clause-digits c i l = sym (digit_in _ (c.type_inv.input (c.args.at + i)).fits) ∙ c.run_in.ensures.members i l
