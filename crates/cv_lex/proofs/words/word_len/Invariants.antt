use Rattle.std.proofs.Common.{◌≡◌, ◌+◌, length, not}
use Rattle.std.specs.List.{prefix_len}
use Rattle.cv_lex.specs.Words as spec
use Rattle.cv_lex.proofs.words.word_len.Given as goal

abbrev pub invariant-loop-rest : goal.invariant-loop-rest
invariant-loop-rest l = record {
  counts : prefix_len (λ b. not (spec.is_blank b)) l.text ≡ l.n + prefix_len (λ b. not (spec.is_blank b)) l.rest;
  lengths : l.n + length l.rest ≡ length l.text;
}

abbrev pub decreases-loop-rest : goal.decreases-loop-rest
decreases-loop-rest l = length l.rest
