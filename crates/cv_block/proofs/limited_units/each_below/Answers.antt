use Rattle.std.proofs.Common.{arith, mul-zero, add-zero}
use Rattle.std.proofs.lemmas.Bool.{and_parts}
use Rattle.cv_block.proofs.AsciiRuns.{unit_more, unit_fits, below_more}
use Rattle.cv_block.proofs.limited_units.each_below.Goals as goal

pub is_below-all-requires : goal.is_below-all-requires
is_below-all-requires g c = omega (arith, unit_fits g.U.Unit.form c.loop-unit._unit c.args.n c.loop-unit-test.true)

pub overflow_add-index : goal.overflow_add-index
overflow_add-index g c = omega (arith, unit_fits g.U.Unit.form c.loop-unit._unit c.args.n c.loop-unit-test.true)

pub loop-unit-init : goal.loop-unit-init
loop-unit-init g c = record {
  index = rw (mul-zero, add-zero);
  small = λ _ k h. absurd (omega arith);
}

pub loop-unit-preserved : goal.loop-unit-preserved
loop-unit-preserved g c =
    let i = c.loop-unit.invariant in
    record {
      index = omega (arith, unit_more g.U.Unit.form c.loop-unit._unit);
      small = λ h. below_more _ _ _ c.args.at c.loop-unit._unit c.loop-unit.index i.index (i.small (and_parts _ _ h).0)
          (c.is_below-all.ensures (and_parts _ _ h).1);
    }
