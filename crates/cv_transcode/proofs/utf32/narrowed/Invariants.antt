use Rattle.std.proofs.Common.{◌≡◌, length}
use Rattle.cv_transcode.specs.Private.Windows.{AreNarrow}
use Rattle.cv_transcode.proofs.utf32.narrowed.Given as goal

abbrev pub invariant-loop-k : goal.invariant-loop-k
invariant-loop-k l = record {
  long : length l.units ≡ 16;
  units : AreNarrow l.numbers l.units l.k;
}
