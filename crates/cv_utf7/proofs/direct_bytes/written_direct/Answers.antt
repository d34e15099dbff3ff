use Rattle.std.proofs.Common.{sym, ◌∙◌}
use Rattle.cv_utf7.proofs.DirectBytes.{stands_in}
use Rattle.cv_utf7.proofs.direct_bytes.written_direct.Goals as goal

pub returns-clause-direct : goal.returns-clause-direct
returns-clause-direct c i l = sym (stands_in _ (c.type_inv.bytes i).fits) ∙ c.prefix_in.ensures.members i l
