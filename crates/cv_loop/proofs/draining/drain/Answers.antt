use Rattle.std.proofs.Common.{arith}
use Rattle.std.proofs.lemmas.List.{take_rest}
use Rattle.std.proofs.lemmas.Result.{err_from_is_err_and}
use Rattle.cv_loop.proofs.Flows.{Drained-none, Drained-then, Stopped-then, Stopped-bad, after_batch}
use Rattle.cv_loop.proofs.draining.drain.Goals as goal

pub loop-n-init : goal.loop-n-init
loop-n-init g c = record {
  ready = c.requires.ready;
  works = c.requires.works;
  drained = Drained-none _ _ _ _ _ (omega arith) (omega arith);
}

pub returns-in_err-n-clause-err : goal.returns-in_err-n-clause-err
returns-in_err-n-clause-err g c =
    let p = err_from_is_err_and c.from_residual.result c.from_residual.ensures.1 in
    rw (p.1, p.2) (Stopped-then _ _ _ _ _ _ _ _ _ _ _ _ _ _ _
    (take_rest c.args.bytes.now c.loop-n.used) c.loop-n.invariant.drained c.in_err-n.ensures.err)

pub loop-n-preserved : goal.loop-n-preserved
loop-n-preserved g c = record {
  ready = c.in_ok-n.ensures.ready;
  works = c.in_ok-n.ensures.works;
  drained = Drained-then _ _ _ _ _ _ _ _ _ _ _ _ _ _ _ _
      (take_rest c.args.bytes.now c.loop-n.used) c.loop-n.invariant.drained c.in_ok-n.ensures.ok;
}

pub returns-in-Partial-clause-ok : goal.returns-in-Partial-clause-ok
returns-in-Partial-clause-ok g c = Drained-then _ _ _ _ _ _ _ _ _ _ _ _ _ _ _ _
    (take_rest c.args.bytes.now c.loop-n.used) c.loop-n.invariant.drained c.in_ok-n.ensures.ok

pub returns-in-Bad-clause-err : goal.returns-in-Bad-clause-err
returns-in-Bad-clause-err g c =
    let all = Drained-then _ _ _ _ _ _ _ _ _ _ _ _ _ _ _ _
    (take_rest c.args.bytes.now c.loop-n.used) c.loop-n.invariant.drained c.in_ok-n.ensures.ok in
    let bad = rw c.in-Bad.is at c.in_ok-n.ensures.end in
    Stopped-bad _ _ _ _ _ _ _ _ _ _ _ (g.W.Sink.has_failed c.answer.new.writer) all
    (rw (after_batch c.args.bytes.now c.loop-n.used c.in_ok-n.n) at bad) c.in_ok-n.ensures.works
