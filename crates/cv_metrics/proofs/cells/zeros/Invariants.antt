use Rattle.std.proofs.Common.{◌≡◌, vec_len}
use Rattle.cv_metrics.proofs.cells.zeros.Given as goal

abbrev pub invariant-loop-cell : goal.invariant-loop-cell
invariant-loop-cell l = vec_len l.cells ≡ l._cell
