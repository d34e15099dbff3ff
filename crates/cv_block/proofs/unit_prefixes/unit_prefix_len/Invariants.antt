use Rattle.std.proofs.Common.{◌≤◌, ◌-◌, length}
use Rattle.cv_block.specs.StatelessForms.{BytesOf, IsFormPrefix}
use Rattle.cv_block.specs.Units.{HasUnits}
use Rattle.cv_block.proofs.unit_prefixes.unit_prefix_len.Given as goal

abbrev pub invariant-loop-used : goal.invariant-loop-used
invariant-loop-used g l = record {
  within : l.used ≤ length l.input;
  prefix : (bytes_of : BytesOf) → HasUnits g.U.Unit.form bytes_of → IsFormPrefix bytes_of l.input l.used;
}

abbrev pub decreases-loop-used : goal.decreases-loop-used
decreases-loop-used g l = length l.input - l.used
