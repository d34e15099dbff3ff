use Rattle.std.proofs.Common.{arith}
use Rattle.cv_utf7.proofs.WriteRuns.{writes_run}
use Rattle.cv_utf7.proofs.write.runs.write_run.Goals as goal

pub returns-clause-run : goal.returns-clause-run
returns-clause-run c = writes_run c.args.characters.now c.narrowed-bytes.result c.args.n
    c.args.at c.written_run.result c.args.out.now _ (omega arith) c.narrowed-bytes.ensures (omega arith)
    (omega arith) c.written_run.ensures.few c.written_run.ensures.direct c.copy.ensures
