use Rattle.std.proofs.Common.{refl}
use Rattle.cv_world.specs.Worlds.{world_tables}
use Rattle.cv_world.proofs.Leaving.{others_both, leaves_empty}
use Rattle.cv_world.proofs.world.World.bye.Goals as goal

pub returns-clause-acts : goal.returns-clause-acts
returns-clause-acts c = (
  (leaves_empty (world_tables c.close_all.new.self) (world_tables c.forget.new.self) c.args.caller c.forget.ensures).0,
  refl,
)

pub returns-clause-others : goal.returns-clause-others
returns-clause-others c = others_both (world_tables c.args.self.now) (world_tables c.close_all.new.self)
    (world_tables c.forget.new.self) c.args.caller c.close_all.ensures.others
    (leaves_empty (world_tables c.close_all.new.self) (world_tables c.forget.new.self) c.args.caller c.forget.ensures).1
