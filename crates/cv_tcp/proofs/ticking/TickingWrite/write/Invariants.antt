-- A write that gave up appended nothing.
use Rattle.std.specs.Io.KnownBytes.{Keeps}
use Rattle.cv_tcp.proofs.ticking.TickingWrite.write.Given as goal

abbrev pub invariant-loop-ticks : goal.invariant-loop-ticks
invariant-loop-ticks g l = Keeps (g.T.Write.contents l.initial.self.inner) (g.T.Write.contents l.self.inner)
