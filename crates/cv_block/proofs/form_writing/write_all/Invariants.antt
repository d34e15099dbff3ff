use Rattle.std.proofs.Common.{◌-◌, length}
use Rattle.cv_block.specs.StatelessForms.{IsWrittenForm}
use Rattle.cv_block.proofs.form_writing.write_all.Given as goal

abbrev pub invariant-loop-n : goal.invariant-loop-n
invariant-loop-n g l =
    IsWrittenForm g.S.StatelessForm.bytes_of l.characters 0 l.fn.buffer 0 (record { n = l.n; used = l.used }) l.buffer

abbrev pub decreases-loop-n : goal.decreases-loop-n
decreases-loop-n g l = length l.characters - l.n
