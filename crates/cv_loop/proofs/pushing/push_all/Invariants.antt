use Rattle.std.proofs.Common.{◌≡◌, length, ◌-◌, ◌≤◌, take}
use Rattle.std.specs.Io.KnownBytes.{Appends}
use Rattle.cv_loop.proofs.pushing.push_all.Given as goal

abbrev pub invariant-loop-n : goal.invariant-loop-n
invariant-loop-n g l = record {
  within : l.n ≤ length l.bytes;
  works : g.W.Sink.has_failed l.sink ≡ g.W.Sink.has_failed l.fn.sink;
  taken : Appends (g.W.Sink.held l.fn.sink) (g.W.Sink.held l.sink) (take l.n l.bytes);
}

abbrev pub decreases-loop-n : goal.decreases-loop-n
decreases-loop-n g l = length l.bytes - l.n
