use Rattle.std.proofs.Common.{None}
use Rattle.cv_caller.proofs.Standing.{named_there}
use Rattle.cv_caller.proofs.Stored.{charmaps_seen, name_seen}
use Rattle.cv_caller.proofs.uploads.Uploads.find.Goals as goal

pub returns-in-Some-slot_named-clause-slot : goal.returns-in-Some-slot_named-clause-slot
returns-in-Some-slot_named-clause-slot c = name_seen _ _ c.args.name.now _ (charmaps_seen c.self.inside.store
    c.in-Some.store _ _ c.self.view_is c.in-Some.is c.deref.ensures) c.in-Some-slot_named.ensures.slot

pub returns-in-Some-slot_named-clause-held : goal.returns-in-Some-slot_named-clause-held
returns-in-Some-slot_named-clause-held c = named_there _ c.args.name.now c.in-Some-slot_named.slot
    (name_seen _ _ c.args.name.now _ (charmaps_seen c.self.inside.store c.in-Some.store _ _ c.self.view_is c.in-Some.is
    c.deref.ensures) c.in-Some-slot_named.ensures.slot)

pub returns-in-None-clause-slot : goal.returns-in-None-clause-slot
returns-in-None-clause-slot c = name_seen _ _ c.args.name.now None (charmaps_seen c.self.inside.store c.in-Some.store _
    _ c.self.view_is c.in-Some.is c.deref.ensures) c.in-None.ensures.slot
