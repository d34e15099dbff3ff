use Rattle.std.proofs.Common.{◌≡◌, false}
use Rattle.cv_loop.proofs.Streams.{Standing}
use Rattle.cv_loop.proofs.serving.serve_stream.Given as goal

-- all whole frames of what was given so far were answered
abbrev pub invariant-loop-read : goal.invariant-loop-read
invariant-loop-read g l = record {
  pulls : g.S.Source.pulls l.reader ≡ l._read;
  goes_on : g.S.Source.met_end l.reader ≡ false;
  reads : g.S.Source.has_failed l.reader ≡ false;
  writes : g.W.Sink.has_failed l.writer ≡ false;
  ready : g.E.Engine.ready l.engine;
  stands : Standing g.E.Machine.turn (g.E.Machine.tables l.fn.engine) (g.E.Machine.tables l.engine)
      (g.S.Source.left l.fn.reader) (g.S.Source.left l.reader)
      (g.W.Sink.held l.fn.writer) (g.W.Sink.held l.writer) l.buffer l.session.requests l.session.written l._read;
}
