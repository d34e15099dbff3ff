use Rattle.std.proofs.Common.{None}
use Rattle.cv_caller.proofs.Stored.{charmaps_seen, free_seen}
use Rattle.cv_caller.proofs.uploads.Uploads.least_slot.Goals as goal

pub returns-in-Some-first_slot-clause-slot : goal.returns-in-Some-first_slot-clause-slot
returns-in-Some-first_slot-clause-slot c = free_seen _ _ _ (charmaps_seen c.self.inside.store c.in-Some.store _ _
    c.self.view_is c.in-Some.is c.deref.ensures) c.in-Some-first_slot.ensures.free

pub returns-in-None-clause-slot : goal.returns-in-None-clause-slot
returns-in-None-clause-slot c = free_seen _ _ None (charmaps_seen c.self.inside.store c.in-Some.store _ _ c.self.view_is
    c.in-Some.is c.deref.ensures) c.in-None.ensures.free
