use Rattle.std.proofs.Common.{arith, refl}
use Rattle.cv_block.proofs.UnitBytes.{four_at_most}
use Rattle.cv_block.proofs.UnitRuns.{all_written}
use Rattle.cv_block.proofs.unit_runs.write_units.Goals as goal

pub returns : goal.returns
returns g c = record {
  many = omega arith;
  written = λ bytes_of spells. all_written bytes_of g.U.Unit.form spells c.args.characters.now c.args.n
      c.args.out.now c.args.at _ c.values_of-values.result _ c.requires.within c.values_of-values.ensures.values
      (rw c.if-not-are_single.false at c.are_single.ensures refl) (omega arith)
      (omega (arith, four_at_most g.U.Unit.form)) c.put_units.ensures.stand c.put_units.ensures.size;
}
