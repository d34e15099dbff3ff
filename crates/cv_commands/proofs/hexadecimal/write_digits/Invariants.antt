use Rattle.std.proofs.Common.{◌≡◌, ◌*◌, flat_map, take}
use Rattle.cv_commands.specs.Lines.{hexadecimal}
use Rattle.cv_commands.proofs.hexadecimal.write_digits.Given as goal

-- the digits of the bytes so far were written
abbrev pub invariant-loop-n : goal.invariant-loop-n
invariant-loop-n l = take (2 * l.n) l.digits ≡ flat_map hexadecimal (take l.n l.bytes)
