use Rattle.std.proofs.Common.{refl, arith, ◌+◌, ◌*◌}
use Rattle.cv_utf7.proofs.PartialUnits.{front_more}
use Rattle.cv_utf7.proofs.read.base64_unit.PartialUnit.of.Goals as goal

pub loop-n-preserved : goal.loop-n-preserved
loop-n-preserved c = front_more c.args.pending c.args.input.now c.loop-n.n (c.loop-n.n + 1) c.loop-n.count
    c.loop-n.value (c.loop-n.count + 6) (c.loop-n.value * 64 + c.in-Some.digit) c.requires c.loop-n.invariant
    (omega arith) c.in-Some.ensures.0 refl refl (omega (arith, c.in-Some.ensures.1))
