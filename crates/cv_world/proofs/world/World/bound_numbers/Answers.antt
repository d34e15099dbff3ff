use Rattle.std.proofs.Common.{ℕ, List, sym, ap, ◌∙◌, arith}
use Rattle.slab.specs.Slab.{get}
use Rattle.cv_caller.specs.Tables.{Table, descriptor_at}
use Rattle.cv_world.specs.Worlds.{keyed_in, world_tables}
use Rattle.cv_world.proofs.Stepping.{seen, closed_at}
use Rattle.cv_world.proofs.world.World.bound_numbers.Goals as goal

pub returns : goal.returns
returns c n within free = ap (λ (v : List (ℕ × Table)). descriptor_at (world_tables v c.args.caller) n)
    (sym c.self.view_is) ∙ ap (λ (t : Table). descriptor_at t n)
    (seen c.self.inside.callers.map c.self.inside.conversions c.args.caller) ∙ closed_at (get c.self.inside.conversions)
    (keyed_in c.self.inside.callers.map c.args.caller) n (c.bound_in.ensures n (omega (arith, within)) free)
