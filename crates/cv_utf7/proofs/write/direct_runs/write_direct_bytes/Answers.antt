use Rattle.std.proofs.Common.{arith, length-take}
use Rattle.cv_utf7.proofs.DirectRuns.{direct_bytes}
use Rattle.cv_utf7.proofs.write.direct_runs.write_direct_bytes.Goals as goal

pub returns : goal.returns
returns c = direct_bytes c.args.text.now c.args.out.now c.args.at c.min-most.result
    c.written_direct-run.result _ c.written_direct-run.ensures.within c.written_direct-run.ensures.direct
    (omega (arith, c.written_direct-run.ensures.within, length-take c.min-most.result c.args.text.now)) c.copy.ensures
