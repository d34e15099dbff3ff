use Rattle.std.proofs.Common.{◌≡◌, ℕ, ◌+◌, ◌<◌, length, get_or}
use Rattle.cv_utf7.proofs.Narrowed.{Stands}
use Rattle.cv_utf7.proofs.write.runs.narrowed.Given as goal

abbrev pub invariant-loop-i : goal.invariant-loop-i
invariant-loop-i l = record {
  long : length l.bytes ≡ 16;
  same : (k : ℕ) → k < l.i → Stands l.characters (l.base + k) (get_or l.bytes k 0);
}
