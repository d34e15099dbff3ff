use Rattle.cv_caller.proofs.Standing.{found_free}
use Rattle.cv_caller.proofs.uploads.Uploads.slot_for.Goals as goal

pub returns-clause-free : goal.returns-clause-free
returns-clause-free c = found_free c.args.self.now.charmaps c.least_slot.result c.least_slot.ensures.slot
