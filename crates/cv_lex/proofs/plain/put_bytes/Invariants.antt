use Rattle.std.proofs.Common.{◌≡◌, ◌≤◌, length, take}
use Rattle.cv_lex.proofs.Gathering.{IsGathered}
use Rattle.cv_lex.proofs.PlainLines.{word}
use Rattle.cv_lex.specs.declared.encoding.Kind.TheVariants.{Hexadecimal}
use Rattle.cv_lex.proofs.plain.put_bytes.Given as goal

abbrev pub invariant-loop-rest : goal.invariant-loop-rest
invariant-loop-rest l = record {
  gathered : IsGathered l.escape Hexadecimal (word l.text) (word l.rest) (take l.n l.bytes) l.n;
  few : l.n ≤ 8;
  long : length l.bytes ≡ 8;
}

abbrev pub decreases-loop-rest : goal.decreases-loop-rest
decreases-loop-rest l = length l.rest
