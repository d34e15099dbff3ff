-- An interrupted write appends nothing.
use Rattle.std.specs.Io.KnownBytes.{Keeps}
use Rattle.cv_tcp.proofs.retrying.Retrying.write_again.Given as goal

abbrev pub invariant-loop-turn : goal.invariant-loop-turn
invariant-loop-turn g l = Keeps (g.T.Write.contents l.initial.self.inner) (g.T.Write.contents l.self.inner)
