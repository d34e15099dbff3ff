use Rattle.std.proofs.Common.{◌≡◌, ◌<◌, ◌≤◌, ◌^◌, true, take}
use Rattle.cv_lex.specs.Words as spec
use Rattle.cv_lex.proofs.plain.number_at.Given as goal

abbrev pub invariant-loop-n : goal.invariant-loop-n
invariant-loop-n l = record {
  is : l.number ≡ spec.numeral 16 (take l.n l.digits);
  small : l.number < 16 ^ l.n;
  all : spec.are_digits 16 (take l.n l.digits) ≡ true;
  few : l.n ≤ 8;
}
