use Rattle.cv_base.proofs.Front.{one_next, stands_within, stays}
use Rattle.cv_base.proofs.laws.next.Goals as goal

pub returns-clause-stays : goal.returns-clause-stays
returns-clause-stays g c = stays _

pub returns-clause-one : goal.returns-clause-one
returns-clause-one g c = one_next _ c.assert_valid.ensures.readable

pub returns-clause-uses : goal.returns-clause-uses
returns-clause-uses g c = stands_within _ c.assert_valid.ensures.readable
