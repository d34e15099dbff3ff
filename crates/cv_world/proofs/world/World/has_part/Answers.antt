use Rattle.std.proofs.Common.{◌≡◌, ℕ, List, sym, ap, ◌∙◌}
use Rattle.slab.specs.Slab.{get}
use Rattle.cv_caller.specs.Tables.{Table}
use Rattle.cv_caller.specs.Keyed.{table_of}
use Rattle.cv_world.specs.Worlds.{keyed_in, world_tables}
use Rattle.cv_world.proofs.Stepping.{seen}
use Rattle.cv_world.proofs.world.World.has_part.Goals as goal

pub returns : goal.returns
returns c none =
    let is : world_tables c.args.self.now c.args.caller ≡ table_of (get c.self.inside.conversions)
    (keyed_in c.self.inside.callers.map c.args.caller) = ap (λ (v : List (ℕ × Table)). world_tables v c.args.caller)
    (sym c.self.view_is) ∙ seen c.self.inside.callers.map c.self.inside.conversions c.args.caller in
    rw is (c.has_part_in.ensures none)
