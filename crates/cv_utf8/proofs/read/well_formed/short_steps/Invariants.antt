use Rattle.std.proofs.Common.{ℕ, ◌<◌, ◌-◌, length}
use Rattle.cv_utf8.specs.Private.Utf8Short.{IsShortAt}
use Rattle.cv_utf8.proofs.read.well_formed.short_steps.Given as goal

abbrev pub invariant-loop-n : goal.invariant-loop-n
invariant-loop-n l = record {
  within : l.n < length l.text;
  short : (k : ℕ) → k < l.n → IsShortAt l.text k;
}

abbrev pub decreases-loop-n : goal.decreases-loop-n
decreases-loop-n l = length l.text - l.n
