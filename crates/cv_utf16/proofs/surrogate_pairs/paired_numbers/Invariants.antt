use Rattle.std.proofs.Common.{◌≡◌, length}
use Rattle.std.specs.Prelude.{IsTrue}
use Rattle.cv_utf16.specs.Private.SurrogatePairs.{ArePaired}
use Rattle.cv_utf16.proofs.surrogate_pairs.paired_numbers.Given as goal

abbrev pub invariant-loop-k : goal.invariant-loop-k
invariant-loop-k g l = record {
  long : length l.numbers ≡ 16;
  paired : IsTrue l.all → ArePaired g.O.ByteOrder.endian l.text l.numbers l.k;
}
