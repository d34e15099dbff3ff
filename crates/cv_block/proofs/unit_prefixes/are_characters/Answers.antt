use Rattle.std.proofs.Common.{drop}
use Rattle.std.proofs.lemmas.List.{take_rest}
use Rattle.cv_block.proofs.FormPrefixes.{units_spelled}
use Rattle.cv_block.proofs.unit_prefixes.are_characters.Goals as goal

pub returns : goal.returns
returns g c = λ sure bytes_of spells.
    units_spelled bytes_of g.U.Unit.form spells (drop c.args.at c.args.input.now) c.numbers_of.result
    c.numbers_of.ensures.long (rw take_rest at c.numbers_of.ensures.units) (c.are_scalars.ensures sure)
