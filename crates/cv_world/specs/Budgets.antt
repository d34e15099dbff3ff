-- How many bytes the callers of a world are counted for.
use Rattle.std.specs.Prelude.{◌≡◌, ◌+◌, ℕ, sum_by}
use Rattle.std.specs.BTreeMap.{BTreeMap, values}
use Rattle.cv_caller.specs.Keyed.{Keyed, held_by}
use Rattle.cv_world.specs.Worlds.{keyed_in}

-- how many bytes all callers are counted for
abbrev pub held_in : BTreeMap ℕ Keyed → ℕ
held_in callers = sum_by held_by (values callers)

-- The sum of all callers changed by as much as the count of this caller.
abbrev pub Exchanges : BTreeMap ℕ Keyed → BTreeMap ℕ Keyed → ℕ → Type 0
Exchanges old new caller = held_in new + held_by (keyed_in old caller) ≡ held_in old + held_by (keyed_in new caller)
