use Rattle.std.proofs.Common.{◌*◌, take, drop}
use Rattle.cv_commands.proofs.Digits.{SaysSoFar}
use Rattle.cv_commands.proofs.hexadecimal.read_digits.Given as goal

-- if all so far are digits, the bytes so far precede those that the rest means
abbrev pub invariant-loop-n : goal.invariant-loop-n
invariant-loop-n l = SaysSoFar l.all l.digits (drop (2 * l.n) l.digits) (take l.n l.bytes)

-- the same, of blocks
abbrev pub invariant-loop-block : goal.invariant-loop-block
invariant-loop-block l = SaysSoFar l.all l.digits (drop (16 * l.block) l.digits) (take (8 * l.block) l.bytes)
