use Rattle.slab.specs.Slab.{get}
use Rattle.cv_world.specs.Worlds.{keyed_in}
use Rattle.cv_world.proofs.Leaving.{same_world, same_seen}
use Rattle.cv_world.proofs.world.World.forget_empty.Goals as goal

pub invariant_of-self : goal.invariant_of-self
invariant_of-self c = same_world (keyed_in c.self.inside.callers.map) (keyed_in c.forget_empty.new.callers.map)
    (get c.self.inside.conversions) c.forget_empty.ensures.same c.self.invariant

pub returns : goal.returns
returns c = same_seen c.self.inside.callers.map c.forget_empty.new.callers.map c.self.inside.conversions _
    c.self.view_is c.forget_empty.ensures.same
