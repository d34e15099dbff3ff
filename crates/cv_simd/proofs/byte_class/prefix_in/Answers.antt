use Rattle.std.proofs.Common.{arith}
use Rattle.cv_simd.proofs.ClassLanes.{members_more}
use Rattle.cv_simd.proofs.byte_class.prefix_in.Goals as goal

pub returns-then-run-lt-SIXTEEN-clause-members : goal.returns-then-run-lt-SIXTEEN-clause-members
returns-then-run-lt-SIXTEEN-clause-members c =
    members_more c.args.class c.args.bytes.now c.loop-n.n _ c.loop-n.invariant.members c.run_in-run.ensures.members

pub loop-n-preserved : goal.loop-n-preserved
loop-n-preserved c = record {
  within = omega arith;
  members = members_more c.args.class c.args.bytes.now c.loop-n.n 16 c.loop-n.invariant.members
      (λ i l. c.run_in-run.ensures.members i (omega arith));
}
