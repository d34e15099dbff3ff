use Rattle.cv_world.specs.Actions.{DropMap, Close, Part}
use Rattle.cv_world.specs.Worlds.{world_tables}
use Rattle.cv_world.proofs.Leaving.{acts_same, others_same}
use Rattle.cv_world.proofs.world.World.step_small.Goals as goal

pub returns-in-DropMap-clause-acts : goal.returns-in-DropMap-clause-acts
returns-in-DropMap-clause-acts c = rw c.in-DropMap.is (acts_same (world_tables c.args.self.now) _ _ c.args.caller
    (DropMap c.in-DropMap.name.now) c.drop_map-answer.result c.forget_empty.ensures c.drop_map-answer.ensures.acts)

pub returns-in-DropMap-clause-others : goal.returns-in-DropMap-clause-others
returns-in-DropMap-clause-others c =
    others_same (world_tables c.args.self.now) _ _ c.args.caller c.forget_empty.ensures c.drop_map-answer.ensures.others

pub returns-in-Close-clause-acts : goal.returns-in-Close-clause-acts
returns-in-Close-clause-acts c = rw c.in-Close.is (acts_same (world_tables c.args.self.now) _ _ c.args.caller
    (Close c.in-Close.number) c.close-answer.result c.forget_empty-in-Close.ensures c.close-answer.ensures.acts)

pub returns-in-Close-clause-others : goal.returns-in-Close-clause-others
returns-in-Close-clause-others c = others_same
    (world_tables c.args.self.now) _ _ c.args.caller c.forget_empty-in-Close.ensures c.close-answer.ensures.others

pub returns-in-Part-clause-acts : goal.returns-in-Part-clause-acts
returns-in-Part-clause-acts c = rw c.in-Part.is (acts_same (world_tables c.args.self.now) _ _ c.args.caller
    (Part c.in-Part.bytes.now) c.part-answer.result c.forget_empty-in-Part.ensures c.part-answer.ensures.acts)

pub returns-in-Part-clause-others : goal.returns-in-Part-clause-others
returns-in-Part-clause-others c = others_same
    (world_tables c.args.self.now) _ _ c.args.caller c.forget_empty-in-Part.ensures c.part-answer.ensures.others
