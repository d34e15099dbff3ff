use Rattle.std.proofs.Common.{◌≡◌, length}
use Rattle.cv_utf8.specs.Private.Utf8Long.{AreWordsOf}
use Rattle.cv_utf8.proofs.read.four_byte.words_of.Given as goal

abbrev pub invariant-loop-k : goal.invariant-loop-k
invariant-loop-k l = record {
  long : length l.words ≡ 16;
  words : AreWordsOf 4 l.text l.words l.k;
}
