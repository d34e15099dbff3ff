use Rattle.std.proofs.Common.{◌≡◌, length}
use Rattle.cv_utf8.specs.Private.Utf8Long.{AreNumbersOf}
use Rattle.cv_utf8.proofs.read.four_byte.numbers_of.Given as goal

abbrev pub invariant-loop-k : goal.invariant-loop-k
invariant-loop-k l = record {
  long : length l.numbers ≡ 16;
  numbers : AreNumbersOf 4 l.words l.numbers l.k;
}
