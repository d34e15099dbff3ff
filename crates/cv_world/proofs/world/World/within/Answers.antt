use Rattle.std.proofs.Common.{ℕ, List, get_or, Option, None, ap}
use Rattle.std.specs.Prelude.{unwrap_or}
use Rattle.std.specs.Ordering.{nat_cmp}
use Rattle.std.specs.BTreeMap.{is_at}
use Rattle.std.specs.Map.{lookup}
use Rattle.cv_caller.specs.Keyed.{Keyed, no_keys}
use Rattle.cv_world.specs.Worlds.{keyed_in}
use Rattle.slab.specs.Slab.{get}
use Rattle.cv_pivot.specs.declared.conversion.Conversion.{Conversion}
use Rattle.cv_world.proofs.Stepping.{nothing_there}
use Rattle.cv_world.proofs.world.World.within.Goals as goal

pub invariant_of-result : goal.invariant_of-result
invariant_of-result c = nothing_there (keyed_in c.new.result.map) (get c.new-2.result)
    (λ d. ap (λ (es : List (ℕ × Keyed)). unwrap_or (lookup (is_at (nat_cmp d)) es) no_keys) c.new.ensures.none)
    (λ k. ap (λ (slots : List (Option Conversion)). get_or slots k None) c.new-2.ensures.empty)
