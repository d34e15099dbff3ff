use Rattle.std.proofs.Common.{◌≡◌, length, take, drop}
use Rattle.cv_utf8.proofs.write.units.units_of.Given as goal

abbrev pub invariant-loop-lane : goal.invariant-loop-lane
invariant-loop-lane l =
    record { size : length l.units ≡ 16; filled : take l.lane l.units ≡ take l.lane (drop l.n l.characters) }
