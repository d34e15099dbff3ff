use Rattle.std.proofs.Common.{◌≤◌, ◌-◌, length, take}
use Rattle.std.specs.Prelude.{IsUtf8}
use Rattle.cv_utf8.proofs.read.well_formed.well_formed_prefix_len.Given as goal

abbrev pub invariant-loop-most : goal.invariant-loop-most
invariant-loop-most l = record {
  within : l.n ≤ length l.input;
  well_formed : IsUtf8 (take l.n l.input);
}

abbrev pub decreases-loop-most : goal.decreases-loop-most
decreases-loop-most l = length l.input - l.n
