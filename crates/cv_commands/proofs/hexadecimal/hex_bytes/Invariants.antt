use Rattle.std.proofs.Common.{length}
use Rattle.cv_commands.proofs.Numbers.{SaysBefore}
use Rattle.cv_commands.proofs.hexadecimal.hex_bytes.Given as goal

-- the bytes so far precede those that the rest means
abbrev pub invariant-loop-digits : goal.invariant-loop-digits
invariant-loop-digits l = SaysBefore l.word l.bytes.items l.digits

abbrev pub decreases-loop-digits : goal.decreases-loop-digits
decreases-loop-digits l = length l.digits
