use Rattle.std.proofs.Common.{Some}
use Rattle.cv_caller.proofs.Standing.{found_free}
use Rattle.cv_caller.proofs.table.Table.least_free.Goals as goal

pub returns-in-Some-clause-free : goal.returns-in-Some-clause-free
returns-in-Some-clause-free c =
    rw (← c.self.view_is) (found_free c.self.inside.places (Some c.in-Some.number) c.in-Some.ensures.least)
