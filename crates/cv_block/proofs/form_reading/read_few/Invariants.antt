use Rattle.std.proofs.Common.{◌-◌, ◌≤◌}
use Rattle.cv_block.specs.StatelessForms.{IsReadForm}
use Rattle.cv_block.proofs.form_reading.read_few.Given as goal

abbrev pub invariant-loop-more : goal.invariant-loop-more
invariant-loop-more g l = record {
  few : l.more ≤ l.most;
  read : IsReadForm g.S.StatelessForm.bytes_of l.input l.at l.fn.buffer l.n
      (record { n = l.more; used = l.used }) l.buffer;
}

abbrev pub decreases-loop-more : goal.decreases-loop-more
decreases-loop-more g l = l.most - l.more
