use Rattle.std.proofs.Common.{◌-◌}
use Rattle.cv_block.specs.StatelessForms.{IsWrittenForm}
use Rattle.cv_block.proofs.form_writing.write_some.Given as goal

abbrev pub invariant-loop-some : goal.invariant-loop-some
invariant-loop-some g l =
    IsWrittenForm g.S.StatelessForm.bytes_of l.characters l.n l.fn.out l.at l.some l.out

abbrev pub decreases-loop-some : goal.decreases-loop-some
decreases-loop-some g l = l.end - l.some.n
