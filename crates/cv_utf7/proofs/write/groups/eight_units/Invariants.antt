use Rattle.std.proofs.Common.{◌≡◌, ℕ, ◌+◌, ◌<◌, length, get_or}
use Rattle.std.specs.Prelude.{min}
use Rattle.cv_utf7.proofs.write.groups.eight_units.Given as goal

abbrev pub invariant-loop-lane : goal.invariant-loop-lane
invariant-loop-lane l = record {
  size : length l.units ≡ 8;
  same : (k : ℕ) → k < l.lane → get_or l.units k 0 ≡ min (get_or l.characters (l.n + k) 0) 0xffff;
}
