use Rattle.std.proofs.Common.{arith}
use Rattle.cv_utf7.proofs.ReadRuns.{reads_run, reads_first}
use Rattle.cv_utf7.proofs.read.runs.read_run.Goals as goal

pub returns-then-buffer-n-ge-SIXTEEN : goal.returns-then-buffer-n-ge-SIXTEEN
returns-then-buffer-n-ge-SIXTEEN c = record {
  run = reads_first c.args.input.now c.args.used c.args.n c.direct_run-run.result c.args.buffer.now _
      c.bytes_from.result (omega arith) (omega arith) c.put_many.auto.buffer (omega arith) (omega arith)
      c.direct_run-run.ensures.direct c.bytes_from.ensures c.put_many.ensures;
}

pub returns : goal.returns
returns c = record {
  run = reads_run c.args.input.now c.args.used c.args.n c.direct_run-run.result _ c.args.buffer.now _ (omega arith)
      (omega arith) c.put_rest.auto.buffer c.direct_run-run.ensures.direct c.put_rest.ensures _ (omega arith)
      (omega arith);
}
