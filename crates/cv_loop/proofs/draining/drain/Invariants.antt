use Rattle.std.proofs.Common.{◌≡◌, false, length, ◌-◌}
use Rattle.cv_loop.specs.Private.Draining.{Drained}
use Rattle.cv_loop.proofs.draining.drain.Given as goal

-- what was answered so far
abbrev pub invariant-loop-n : goal.invariant-loop-n
invariant-loop-n g l = record {
  ready : g.E.Engine.ready l.engine;
  works : g.W.Sink.has_failed l.writer ≡ false;
  drained : Drained g.E.Machine.turn (g.E.Machine.tables l.fn.engine) (g.W.Sink.held l.fn.writer)
      (g.W.Sink.held l.writer) l.bytes l.used (g.E.Machine.tables l.engine) l.fn.session.written l.session.written
      l.fn.session.requests l.session.requests;
}

abbrev pub decreases-loop-n : goal.decreases-loop-n
decreases-loop-n g l = length l.bytes - l.used
