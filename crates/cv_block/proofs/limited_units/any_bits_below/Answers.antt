use Rattle.std.proofs.Common.{◌<◌, arith, mul-zero, add-zero, ltb-true}
use Rattle.cv_block.proofs.AsciiRuns.{unit_more, unit_fits, any_bits_more, below_weaker}
use Rattle.cv_block.proofs.limited_units.any_bits_below.Goals as goal

pub number-any_bits-requires : goal.number-any_bits-requires
number-any_bits-requires g c = omega (arith, unit_fits g.U.Unit.form c.loop-unit._unit c.args.n c.loop-unit-test.true)

pub overflow_add-index : goal.overflow_add-index
overflow_add-index g c = omega (arith, unit_fits g.U.Unit.form c.loop-unit._unit c.args.n c.loop-unit-test.true)

pub loop-unit-init : goal.loop-unit-init
loop-unit-init g c = record {
  index = rw (mul-zero, add-zero);
  small = λ k h. absurd (omega arith);
}

pub loop-unit-preserved : goal.loop-unit-preserved
loop-unit-preserved g c =
    let i = c.loop-unit.invariant in
    record {
      index = omega (arith, unit_more g.U.Unit.form c.loop-unit._unit);
      small = any_bits_more _ _ c.args.at c.loop-unit._unit c.loop-unit.index c.loop-unit.any_bits _ i.index i.small
          c.number-any_bits.ensures;
    }

pub returns : goal.returns
returns g c h k m =
    let below : c.loop-unit.any_bits < g.R.CodeLimit.limit = rw c.limit.ensures.value at (ltb-true _ _ h) in
    below_weaker _ _ _ _ _ (omega (arith, below)) (c.loop-unit.invariant.small k (omega arith))
