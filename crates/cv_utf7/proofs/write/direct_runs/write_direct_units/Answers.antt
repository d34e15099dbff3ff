use Rattle.std.proofs.Common.{arith}
use Rattle.cv_utf7.proofs.DirectRuns.{direct_units}
use Rattle.cv_utf7.proofs.write.direct_runs.write_direct_units.Goals as goal

pub returns : goal.returns
returns c =
    let n = c.take_ascii_run-n.ensures in
    direct_units c.args.form c.args.text.now c.args.out.now c.args.at c.take_ascii_run-n.result c.min-run.result
    _ _ _ n.stand n.small n.out (omega arith) (λ i l. c.written_direct.ensures.direct i (omega arith))
    (omega arith) c.copy.ensures
