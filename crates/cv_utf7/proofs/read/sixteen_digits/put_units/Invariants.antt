use Rattle.std.proofs.Common.{◌≡◌, ◌+◌, ◌++◌, take}
use Rattle.cv_utf7.proofs.read.sixteen_digits.put_units.Given as goal

abbrev pub invariant-loop-i : goal.invariant-loop-i
invariant-loop-i l = take (l.n + l.i) l.buffer ≡ take l.n l.fn.buffer ++ take l.i l.units
