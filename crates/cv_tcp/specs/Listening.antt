-- How listening ends.
use Rattle.std.specs.Prelude.{◌≡◌, ◌≤◌, ℕ}
use Rattle.cv_tcp.specs.declared.listened.Listened.{Listened}
use Rattle.cv_tcp.specs.declared.listened.Listened.TheVariants.{Served, Drained}

-- All wanted streams were served. Or a drain ended it: at most as many were served, and some of these may have been
-- cut.
abbrev pub IsEnd : ℕ → Listened → Type 0
IsEnd wanted (Served streams) = streams ≡ wanted
IsEnd wanted (Drained streams cut) = (streams ≤ wanted) × (cut ≤ streams)
