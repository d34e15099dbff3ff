use Rattle.std.proofs.Common.{refl}
use Rattle.cv_frame.specs.declared.status.Status.TheVariants as status
use Rattle.cv_world.specs.Worlds.{world_tables}
use Rattle.cv_world.specs.declared.answer.Answer.TheVariants as answers
use Rattle.cv_world.proofs.Changes.{changes_only}
use Rattle.cv_world.proofs.Stepping.{close_none}
use Rattle.cv_world.proofs.world.World.close_bound.Goals as goal

pub returns-then-not-is_bound-clause-acts : goal.returns-then-not-is_bound-clause-acts
returns-then-not-is_bound-clause-acts c = (
  answers.Refused status.BadDescriptor,
  close_none (world_tables c.args.self.now c.args.caller) c.args.number (c.requires c.if-not-is_bound.true),
)

pub returns-then-not-is_bound-clause-others : goal.returns-then-not-is_bound-clause-others
returns-then-not-is_bound-clause-others c =
    changes_only (world_tables c.args.self.now) (world_tables c.args.self.now) c.args.caller (λ q e. refl)

pub returns-clause-acts : goal.returns-clause-acts
returns-clause-acts c = (c.close.result, c.close.ensures.acts)
