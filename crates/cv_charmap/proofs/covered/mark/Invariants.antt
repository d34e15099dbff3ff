use Rattle.std.proofs.Common.{◌≡◌, length}
use Rattle.cv_charmap.specs.Private.Covers.{AreCovered}
use Rattle.cv_charmap.proofs.covered.mark.Given as goal

abbrev pub invariant-loop-run : goal.invariant-loop-run
invariant-loop-run l = record {
  covered : AreCovered l.trie.entries l.covered;
  long : length l.covered ≡ length l.trie.entries;
}
