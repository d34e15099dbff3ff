use Rattle.std.proofs.Common.{arith, refl}
use Rattle.cv_block.proofs.UnitRuns.{all_read}
use Rattle.cv_block.proofs.unit_runs.read_units.Goals as goal

pub returns-clause-read : goal.returns-clause-read
returns-clause-read g c = λ bytes_of spells. all_read bytes_of g.U.Unit.form spells c.args.input.now
    c.args.at c.args.buffer.now c.args.n _ c.numbers_of-numbers.result _ c.numbers_of-numbers.ensures.long
    c.numbers_of-numbers.ensures.units (rw c.if-not-are_scalars.false at c.are_scalars.ensures refl) c.requires.room
    (omega arith) c.put_characters.ensures.stand c.put_characters.ensures.size
