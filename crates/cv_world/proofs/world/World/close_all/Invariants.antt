use Rattle.std.proofs.Common.{◌≡◌, ℕ, None, ◌<◌}
use Rattle.cv_machine.specs.Machine.{with_table}
use Rattle.cv_caller.specs.Tables.{descriptor_at}
use Rattle.cv_world.specs.Worlds.{world_tables}
use Rattle.cv_world.proofs.world.World.close_all.Given as goal

abbrev pub invariant-loop-number : goal.invariant-loop-number
invariant-loop-number l = record {
  closed : (m : ℕ) → m < l.number → descriptor_at (world_tables l.self l.caller) m ≡ None;
  free : (m : ℕ) → descriptor_at (world_tables l.fn.self l.caller) m ≡ None
      → descriptor_at (world_tables l.self l.caller) m ≡ None;
  others : world_tables l.self ≡ with_table (world_tables l.fn.self) l.caller (world_tables l.self l.caller);
}
