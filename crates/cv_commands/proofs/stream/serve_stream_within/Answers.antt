use Rattle.std.proofs.Common.{ℕ, subst, ap, ◌∙◌, Err}
use Rattle.cv_caller.specs.Tables.{Table}
use Rattle.cv_world.specs.Requests.{turn}
use Rattle.cv_loop.specs.Serving.{IsHeadline, StreamEnded, ending_of}
use Rattle.cv_pool.specs.Pools.{pool_tables}
use Rattle.cv_commands.proofs.Unserved.{nothing_served}
use Rattle.cv_commands.proofs.stream.serve_stream_within.Goals as goal

pub returns-in_default-clause-headline : goal.returns-in_default-clause-headline
returns-in_default-clause-headline g c = nothing_served _ _ _ _

pub returns-in-Ok-serve-clause-headline : goal.returns-in-Ok-serve-clause-headline
returns-in-Ok-serve-clause-headline g c = λ given written gave took.
    subst (λ (t : ℕ → Table). IsHeadline turn StreamEnded t given written)
    (ap (λ pool. pool_tables pool.shards.items) c.new-engine.ensures ∙ c.in-Ok.ensures.tables)
    (c.in-Ok-serve.ensures.headline given written gave took)

pub returns-clause-headline : goal.returns-clause-headline
returns-clause-headline g c = λ given written gave took.
    subst (λ (t : ℕ → Table). IsHeadline turn (ending_of (Err c.in-Err.fault)) t given written)
    (ap (λ pool. pool_tables pool.shards.items) c.new-engine.ensures ∙ c.in-Ok.ensures.tables)
    (c.in-Err.ensures.headline given written gave took)
