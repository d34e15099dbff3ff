-- The buffer keeps its length, and an interrupted read consumes nothing.
use Rattle.std.proofs.Common.{◌≡◌, length}
use Rattle.std.specs.Io.KnownBytes.{Keeps}
use Rattle.cv_tcp.proofs.retrying.Retrying.read_again.Given as goal

abbrev pub invariant-loop-turn : goal.invariant-loop-turn
invariant-loop-turn g l = (length l.buf ≡ length l.initial.buf)
    × Keeps (g.T.Read.remaining l.initial.self.inner) (g.T.Read.remaining l.self.inner)
