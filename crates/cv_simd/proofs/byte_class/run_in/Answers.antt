use Rattle.std.proofs.Common.{arith}
use Rattle.cv_simd.proofs.ClassLanes.{member_at, stop_at}
use Rattle.cv_simd.proofs.byte_class.run_in.Goals as goal

pub returns-clause-members : goal.returns-clause-members
returns-clause-members c i l = member_at c.args.class c.args.bytes.now c.min-base.result c.args.from _ i
    c.sixteen_outside-stops.ensures.outside (omega arith) (omega arith) (c.run_at.ensures.clear i l)

pub returns-clause-stop : goal.returns-clause-stop
returns-clause-stop c l m = stop_at c.args.class c.args.bytes.now c.min-base.result c.args.from _ _
    c.sixteen_outside-stops.ensures.outside (omega arith) (omega arith) c.run_at.ensures.set
