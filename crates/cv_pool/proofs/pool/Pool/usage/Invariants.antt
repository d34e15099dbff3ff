use Rattle.std.proofs.Common.{◌≤◌}
use Rattle.cv_pool.proofs.pool.Pool.usage.Given as goal

abbrev pub invariant-loop-shard : goal.invariant-loop-shard
invariant-loop-shard g l = (l.sum.bytes ≤ l.sum.budget.bytes) × (l.sum.callers ≤ l.sum.budget.callers)
