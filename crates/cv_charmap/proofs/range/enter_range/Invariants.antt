use Rattle.std.proofs.Common.{◌≤◌, ◌-◌, ◌^◌}
use Rattle.cv_charmap.proofs.Ranging.{IsEntering}
use Rattle.cv_charmap.proofs.range.enter_range.Given as goal

abbrev pub invariant-loop-i : goal.invariant-loop-i
invariant-loop-i l = record {
  entering : IsEntering l.initial.pairs l.pairs l.start.hex l.start.first l.start.bytes.now l.count l.i l.found.items;
  near : l.i ≤ 2 ^ 33;
}

abbrev pub decreases-loop-i : goal.decreases-loop-i
decreases-loop-i l = l.count - l.i
