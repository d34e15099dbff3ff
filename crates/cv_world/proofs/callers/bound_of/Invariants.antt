use Rattle.std.proofs.Common.{◌≡◌, ℕ, ◌<◌, false, get_or, None}
use Rattle.cv_caller.specs.Keyed.{place_at}
use Rattle.cv_world.proofs.callers.bound_of.Given as goal

abbrev pub invariant-loop-number : goal.invariant-loop-number
invariant-loop-number l = (k : ℕ) → k < l.number → get_or l.is_bound-items k false ≡ false → place_at l.table k ≡ None
