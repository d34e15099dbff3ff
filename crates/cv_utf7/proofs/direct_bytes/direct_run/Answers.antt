use Rattle.std.proofs.Common.{sym, ◌+◌, ◌∙◌}
use Rattle.cv_utf7.proofs.DirectBytes.{may_stand_in}
use Rattle.cv_utf7.proofs.direct_bytes.direct_run.Goals as goal

pub returns-clause-direct : goal.returns-clause-direct
returns-clause-direct c i l = sym (may_stand_in _ (c.type_inv.input (c.args.from + i)).fits)
    ∙ c.run_in.ensures.members i l
