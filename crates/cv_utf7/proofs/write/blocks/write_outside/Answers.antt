use Rattle.std.proofs.Common.{arith}
use Rattle.cv_base.specs.declared.state.WriteState.TheVariants as write
use Rattle.cv_utf7.proofs.WriteSteps.{writes_more, writes_to}
use Rattle.cv_utf7.proofs.write.blocks.write_outside.Goals as goal

pub loop-n-preserved : goal.loop-n-preserved
loop-n-preserved c =
    let run = writes_more c.loop-n.invariant.wrote c.write_run-run.ensures.run in
    record {
      wrote = writes_to (writes_more run c.write_sequence-reached.ensures.more) write.Start c.in-Start.is;
      on = omega arith;
    }

pub returns-in_default : goal.returns-in_default
returns-in_default c =
    let run = writes_more c.loop-n.invariant.wrote c.write_run-run.ensures.run in
    record {
      more = writes_more run c.write_sequence-reached.ensures.more;
      on = omega (arith, run.counts);
    }

pub loop-n-preserved-then-run-eq-SIXTEEN : goal.loop-n-preserved-then-run-eq-SIXTEEN
loop-n-preserved-then-run-eq-SIXTEEN c = record {
  wrote = writes_more c.loop-n.invariant.wrote c.write_run-run.ensures.run;
  on = omega arith;
}
