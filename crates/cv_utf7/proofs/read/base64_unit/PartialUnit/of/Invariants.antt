use Rattle.cv_utf7.specs.Private.ItemSteps.{IsPartial}
use Rattle.cv_utf7.proofs.read.base64_unit.PartialUnit.of.Given as goal

abbrev pub invariant-loop-n : goal.invariant-loop-n
invariant-loop-n l = IsPartial l.fn.pending l.input l.n l.count l.value
