use Rattle.std.proofs.Common.{◌≡◌, ◌+◌, ◌++◌, take}
use Rattle.cv_utf8.proofs.read.put_lanes.put_eight.Given as goal

abbrev pub invariant-loop-lane : goal.invariant-loop-lane
invariant-loop-lane l = take (l.n + l.lane) l.buffer ≡ take l.n l.fn.buffer ++ take l.lane l.numbers
