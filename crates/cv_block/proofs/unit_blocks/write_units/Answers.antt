use Rattle.std.proofs.Common.{arith, add-one, add-zero, mul-zero}
use Rattle.cv_block.proofs.UnitBytes.{byte_fits}
use Rattle.cv_block.proofs.AsciiRuns.{unit_more, unit_fits, put_none, put_more}
use Rattle.cv_block.proofs.unit_blocks.write_units.Goals as goal

pub character-requires : goal.character-requires
character-requires g c = omega (arith, unit_fits g.From.Unit.form c.loop-unit._unit c.args.n c.loop-unit-test.true)

pub write-requires : goal.write-requires
write-requires g c = record {
  few = byte_fits g.To.Unit.form c.character.result c.character.ensures.few;
  room = omega (arith, unit_fits g.To.Unit.form c.loop-unit._unit c.args.n c.loop-unit-test.true);
}

pub overflow_add-used : goal.overflow_add-used
overflow_add-used g c = omega (arith, unit_fits g.From.Unit.form c.loop-unit._unit c.args.n c.loop-unit-test.true)

pub overflow_add-end : goal.overflow_add-end
overflow_add-end g c = omega (arith, unit_fits g.To.Unit.form c.loop-unit._unit c.args.n c.loop-unit-test.true)

pub loop-unit-init : goal.loop-unit-init
loop-unit-init g c = record {
  index = rw mul-zero;
  end = rw (mul-zero, add-zero);
  put = put_none _ _ _ _ c.args.at;
}

pub loop-unit-preserved : goal.loop-unit-preserved
loop-unit-preserved g c =
    let i = c.loop-unit.invariant in
    let fits = unit_fits g.To.Unit.form c.loop-unit._unit c.args.n c.loop-unit-test.true in
    record {
      index = omega (arith, unit_more g.From.Unit.form c.loop-unit._unit);
      end = omega (arith, unit_more g.To.Unit.form c.loop-unit._unit);
      put = rw add-one (put_more _ _ _ _ c.args.at c.loop-unit._unit c.loop-unit.end c.character.result c.loop-unit.out
          _ (omega arith) i.end (rw i.index at c.character.ensures.lowest) i.put c.write.ensures);
    }
