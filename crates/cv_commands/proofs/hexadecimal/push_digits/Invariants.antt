use Rattle.std.proofs.Common.{◌≡◌, ◌+◌, ◌*◌, ◌≤◌, ◌++◌, flat_map, take, length}
use Rattle.std.specs.Prelude.{vec_len, vec_capacity}
use Rattle.cv_commands.specs.Lines.{hexadecimal}
use Rattle.cv_commands.proofs.hexadecimal.push_digits.Given as goal

-- the digits of the bytes so far were appended, and there is room for the others
abbrev pub invariant-loop-block : goal.invariant-loop-block
invariant-loop-block l = record {
  items : l.line.items ≡ l.fn.line.items ++ flat_map hexadecimal (take (16 * l.block) l.bytes);
  room : vec_len l.line + 2 * length l.bytes ≤ vec_capacity l.line + 32 * l.block;
}
