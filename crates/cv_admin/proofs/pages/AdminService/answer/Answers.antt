-- In each arm the route is the arm's pattern.
use Rattle.cv_admin.proofs.pages.AdminService.answer.Goals as goal

pub returns-in-NotAllowed : goal.returns-in-NotAllowed
returns-in-NotAllowed g c = rw c.in-NotAllowed.is c.refuse_method.ensures

pub returns-in-Nowhere : goal.returns-in-Nowhere
returns-in-Nowhere g c = rw c.in-Nowhere.is c.fill.ensures
