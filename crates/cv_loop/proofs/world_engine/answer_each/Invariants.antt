use Rattle.std.proofs.Common.{◌≡◌, ◌≤◌, length, take, vec_len, vec_capacity}
use Rattle.cv_machine.specs.Machine.{Runs}
use Rattle.cv_world.specs.Worlds.{world_tables}
use Rattle.cv_world.specs.Requests.{turn}
use Rattle.cv_loop.proofs.world_engine.answer_each.Given as goal

abbrev pub invariant-loop-request : goal.invariant-loop-request
invariant-loop-request g l = record {
  count : vec_len l.replies ≡ l.request-index;
  room : length l.requests ≤ vec_capacity l.replies;
  runs : Runs turn (world_tables l.fn.world) (take l.request-index l.requests) l.replies.items (world_tables l.world);
}
