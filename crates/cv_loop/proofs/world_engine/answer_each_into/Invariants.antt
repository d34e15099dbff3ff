use Rattle.std.proofs.Common.{take, []}
use Rattle.cv_world.specs.Worlds.{world_tables}
use Rattle.cv_world.specs.Requests.{turn}
use Rattle.cv_loop.specs.Replying.{AppendsReplies}
use Rattle.cv_loop.proofs.world_engine.answer_each_into.Given as goal

-- all requests so far ran, and their replies were appended
abbrev pub invariant-loop-request : goal.invariant-loop-request
invariant-loop-request g l = AppendsReplies turn (world_tables l.fn.world)
    (take l.request-index l.requests) [] l.fn.replies l.replies [] (world_tables l.world)
