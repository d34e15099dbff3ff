use Rattle.std.proofs.Common.{arith}
use Rattle.cv_world.specs.Worlds.{world_tables}
use Rattle.cv_world.proofs.Leaving.{closed_more, closed_still, others_both}
use Rattle.cv_world.proofs.world.World.close_all.Goals as goal

pub close_bound-requires : goal.close_bound-requires
close_bound-requires c = λ h. c.loop-number.invariant.free c.loop-number.number
    (c.bound_numbers-bound.ensures c.loop-number.number (omega arith) h)

pub loop-number-preserved : goal.loop-number-preserved
loop-number-preserved c =
    let before = world_tables c.loop-number.self c.args.caller in
    let after = world_tables c.close_bound.new.self c.args.caller in
    let closes = c.close_bound.ensures.acts in
    record {
      closed = closed_more before after c.loop-number.number closes.0 closes.1 c.loop-number.invariant.closed;
      free = λ m h.
          closed_still before after c.loop-number.number closes.0 closes.1 m (c.loop-number.invariant.free m h);
      others = others_both (world_tables c.args.self.now) (world_tables c.loop-number.self) (world_tables
          c.close_bound.new.self) c.args.caller c.loop-number.invariant.others c.close_bound.ensures.others;
    }
