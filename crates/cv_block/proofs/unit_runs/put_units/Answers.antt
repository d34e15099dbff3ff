use Rattle.std.proofs.Common.{◌+◌, ◌*◌, ◌≤◌, refl, arith}
use Rattle.std.proofs.Math.Nat.{mul-add, mul-le-mul_left}
use Rattle.cv_base.specs.Units.{unit_of, unit_size}
use Rattle.cv_block.proofs.UnitBytes.{length-unit_of}
use Rattle.cv_block.proofs.UnitRuns.{more_stand}
use Rattle.cv_block.proofs.unit_runs.put_units.Goals as goal

pub loop-k-preserved : goal.loop-k-preserved
loop-k-preserved g c =
    let form = g.U.Unit.form in
    let size = unit_size form in
    let k = c.loop-k.k in
    let i = c.loop-k.invariant in
    let fits : size * (k + 1) ≤ size * 16 = mul-le-mul_left size (omega arith) in
    record {
      index = omega (arith, c.size-index.ensures, mul-add size k 1);
      stand = more_stand (unit_of form) c.args.values.now c.args.out.now c.args.at size
          k c.loop-k.index _ _ c.loop-k.out _ i.stand refl (omega arith) (length-unit_of form _) (omega arith)
          (omega (arith, fits, mul-add size k 1)) c.write.ensures;
    }
