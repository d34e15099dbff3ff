use Rattle.std.proofs.Common.{ap}
use Rattle.slab.specs.Slab.{get}
use Rattle.cv_caller.specs.Keyed.{table_of}
use Rattle.cv_world.specs.Actions.{Part}
use Rattle.cv_world.specs.Worlds.{keyed_in}
use Rattle.cv_world.proofs.Stepping.{acts_seen, others_seen}
use Rattle.cv_world.proofs.Leaving.{part_done, part_world}
use Rattle.cv_world.proofs.world.World.part.Goals as goal

pub invariant_of-self : goal.invariant_of-self
invariant_of-self c = part_world (keyed_in c.self.inside.callers.map) (keyed_in c.part_in-parted.new.callers.map)
    (get c.self.inside.conversions) c.args.caller c.args.bytes.now c.part_in-parted.result c.part_in-parted.ensures.own
    c.part_in-parted.ensures.others c.self.invariant

pub returns-clause-acts : goal.returns-clause-acts
returns-clause-acts c =
    rw c.part_answer.ensures.value (acts_seen c.self.inside.callers.map c.part_in-parted.new.callers.map
    c.self.inside.conversions c.self.inside.conversions _ c.args.caller (Part c.args.bytes.now) _ c.self.view_is
    (part_done (get c.self.inside.conversions) (keyed_in c.self.inside.callers.map c.args.caller)
    (keyed_in c.part_in-parted.new.callers.map c.args.caller) c.args.bytes.now c.part_in-parted.result
    c.part_in-parted.ensures.own))

pub returns-clause-others : goal.returns-clause-others
returns-clause-others c = others_seen c.self.inside.callers.map
    c.part_in-parted.new.callers.map c.self.inside.conversions c.self.inside.conversions _ c.args.caller c.self.view_is
    (λ d a. ap (table_of (get c.self.inside.conversions)) (c.part_in-parted.ensures.others d a))
