-- The buffer keeps its length, and a read that gave up consumed nothing.
use Rattle.std.proofs.Common.{◌≡◌, length}
use Rattle.std.specs.Io.KnownBytes.{Keeps}
use Rattle.cv_tcp.proofs.ticking.TickingRead.read.Given as goal

abbrev pub invariant-loop-ticks : goal.invariant-loop-ticks
invariant-loop-ticks g l = (length l.buf ≡ length l.initial.buf)
    × Keeps (g.T.Read.remaining l.initial.self.inner) (g.T.Read.remaining l.self.inner)
