use Rattle.cv_loop.proofs.SomeService.{some_service}
use Rattle.cv_loop.proofs.laws.some_service.Goals as goal

pub returns : goal.returns
returns c = some_service c.keeps_tables.ensures c.never_lacks_alone.ensures c.one_cut.ensures
