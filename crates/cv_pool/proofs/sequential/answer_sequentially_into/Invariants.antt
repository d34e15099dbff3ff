use Rattle.std.proofs.Common.{take, []}
use Rattle.cv_loop.specs.Replying.{AppendsReplies}
use Rattle.cv_world.specs.Requests.{turn}
use Rattle.cv_pool.specs.Pools.{pool_tables}
use Rattle.cv_pool.proofs.sequential.answer_sequentially_into.Given as goal

-- all requests so far ran, and their replies were appended
abbrev pub invariant-loop-request : goal.invariant-loop-request
invariant-loop-request g l = AppendsReplies turn (pool_tables l.fn.shards)
    (take l.request-index l.requests) [] l.fn.replies l.replies [] (pool_tables l.shards)
