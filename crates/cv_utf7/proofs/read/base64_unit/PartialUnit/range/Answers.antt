use Rattle.std.proofs.Common.{◌-◌, arith}
use Rattle.std.proofs.lemmas.Nat.{one_shl}
use Rattle.cv_utf7.proofs.PartialUnits.{width_bound}
use Rattle.cv_utf7.proofs.read.base64_unit.PartialUnit.range.Goals as goal

pub returns-clause-bound : goal.returns-clause-bound
returns-clause-bound c = rw (one_shl (16 - c.args.self.count) 32 (omega arith))
    (width_bound c.args.self.count c.args.self.value c.requires.few c.requires.small)
