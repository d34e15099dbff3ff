use Rattle.std.proofs.Common.{arith}
use Rattle.cv_block.proofs.FormRuns.{read_after_none}
use Rattle.cv_block.proofs.form_reading.read_some.Goals as goal

pub returns : goal.returns
returns g c =
    read_after_none _ _ c.args.at _ c.args.n _ _ _ _ (omega arith) c.read_many-many.ensures.read c.read_few-2.ensures
