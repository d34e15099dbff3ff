use Rattle.std.proofs.Common.{◌≡◌, length, take, drop}
use Rattle.cv_base.proofs.substituting.numbers_of.Given as goal

abbrev pub invariant-loop-lane : goal.invariant-loop-lane
invariant-loop-lane l =
    record { size : length l.numbers ≡ 16; filled : take l.lane l.numbers ≡ take l.lane (drop l.n l.characters) }
