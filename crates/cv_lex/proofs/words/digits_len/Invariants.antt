use Rattle.std.proofs.Common.{◌≡◌, ◌+◌, length}
use Rattle.std.specs.Char as char
use Rattle.std.specs.List.{prefix_len}
use Rattle.cv_lex.proofs.words.digits_len.Given as goal

abbrev pub invariant-loop-rest : goal.invariant-loop-rest
invariant-loop-rest l = record {
  counts : prefix_len (λ b. char.is_digit b l.base) l.text ≡ l.n + prefix_len (λ b. char.is_digit b l.base) l.rest;
  lengths : l.n + length l.rest ≡ length l.text;
}

abbrev pub decreases-loop-rest : goal.decreases-loop-rest
decreases-loop-rest l = length l.rest
