use Rattle.std.proofs.Common.{◌≡◌, ◌≤◌, ◌*◌, take}
use Rattle.std.specs.Prelude.{sum_by}
use Rattle.cv_caller.specs.Private.Views.{weighed_bytes}
use Rattle.cv_caller.proofs.charmaps.count_bytes.Given as goal

abbrev pub invariant-loop-held : goal.invariant-loop-held
invariant-loop-held l = (l.bytes ≡ sum_by weighed_bytes (take l.held-index l.charmaps))
    × (l.bytes ≤ l.held-index * 4294967295)
