use Rattle.std.proofs.Common.{◌-◌, length}
use Rattle.cv_block.specs.StatelessForms.{IsReadForm}
use Rattle.cv_block.proofs.form_reading.read_prefix.Given as goal

abbrev pub invariant-loop-n : goal.invariant-loop-n
invariant-loop-n g l =
    IsReadForm g.S.StatelessForm.bytes_of l.input 0 l.fn.buffer 0 (record { n = l.n; used = l.used }) l.buffer

abbrev pub decreases-loop-n : goal.decreases-loop-n
decreases-loop-n g l = length l.fn.buffer - l.n
