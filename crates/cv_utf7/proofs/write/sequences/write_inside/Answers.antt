use Rattle.std.proofs.Common.{arith}
use Rattle.cv_base.specs.declared.state.WriteState.TheVariants as write
use Rattle.cv_utf7.proofs.WriteSteps.{writes_more, writes_to}
use Rattle.cv_utf7.proofs.write.sequences.write_inside.Goals as goal

pub returns-then-reached-characters-clause-more : goal.returns-then-reached-characters-clause-more
returns-then-reached-characters-clause-more c =
    writes_more c.loop-reached.invariant.wrote c.write_one-reached.ensures.one

pub loop-reached-preserved : goal.loop-reached-preserved
loop-reached-preserved c =
    let q = c.write_one-reached.ensures.one in
    record {
      wrote = writes_to (writes_more c.loop-reached.invariant.wrote q) (write.Shifted _) c.in-Shifted.is;
      some = omega (arith, q.within);
      on = omega arith;
    }

pub returns-in_default : goal.returns-in_default
returns-in_default c = record {
  more = writes_more c.loop-reached.invariant.wrote c.write_one-reached.ensures.one;
  on = omega arith;
}
