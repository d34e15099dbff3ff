use Rattle.std.proofs.Common.{◌≡◌, ◌+◌, ◌*◌, ◌++◌, take}
use Rattle.std.specs.List.{flat_map}
use Rattle.cv_base.specs.Units.{unit_of, unit_size}
use Rattle.cv_block.proofs.unit_runs.put_units.Given as goal

abbrev pub invariant-loop-k : goal.invariant-loop-k
invariant-loop-k g l = record {
  index : l.index ≡ l.at + unit_size g.U.Unit.form * l.k;
  stand : take l.index l.out ≡ take l.at l.fn.out ++ flat_map (unit_of g.U.Unit.form) (take l.k l.values);
}
