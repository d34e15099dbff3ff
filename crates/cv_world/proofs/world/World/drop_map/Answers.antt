use Rattle.std.proofs.Common.{ap}
use Rattle.slab.specs.Slab.{get}
use Rattle.cv_caller.specs.Keyed.{table_of}
use Rattle.cv_world.specs.Worlds.{keyed_in}
use Rattle.cv_world.proofs.Stepping.{acts_seen, others_seen, drop_done, drop_world}
use Rattle.cv_world.specs.Actions.{DropMap}
use Rattle.cv_world.proofs.world.World.drop_map.Goals as goal

pub invariant_of-self : goal.invariant_of-self
invariant_of-self c = drop_world (keyed_in c.self.inside.callers.map) (keyed_in c.drop_in-dropped.new.callers.map)
    (get c.self.inside.conversions) c.args.caller c.args.name.now c.drop_in-dropped.result c.drop_in-dropped.ensures.own
    c.drop_in-dropped.ensures.others c.self.invariant

pub returns-clause-acts : goal.returns-clause-acts
returns-clause-acts c =
    rw c.drop_answer.ensures.value (acts_seen c.self.inside.callers.map c.drop_in-dropped.new.callers.map
    c.self.inside.conversions c.self.inside.conversions _ c.args.caller (DropMap c.args.name.now) _ c.self.view_is
    (drop_done (get c.self.inside.conversions) (keyed_in c.self.inside.callers.map c.args.caller)
    (keyed_in c.drop_in-dropped.new.callers.map c.args.caller) c.args.name.now c.drop_in-dropped.result
    (c.self.invariant.live c.args.caller) c.drop_in-dropped.ensures.own))

pub returns-clause-others : goal.returns-clause-others
returns-clause-others c = others_seen c.self.inside.callers.map
    c.drop_in-dropped.new.callers.map c.self.inside.conversions c.self.inside.conversions _ c.args.caller c.self.view_is
    (λ d a. ap (table_of (get c.self.inside.conversions)) (c.drop_in-dropped.ensures.others d a))
