use Rattle.std.proofs.Common.{◌≡◌, length}
use Rattle.cv_charmap.specs.Private.Covers.{AreCovered}
use Rattle.cv_charmap.proofs.covered.note_all.Given as goal

abbrev pub invariant-loop-k : goal.invariant-loop-k
invariant-loop-k l = record {
  covered : AreCovered l.trie.entries l.covered;
  long : length l.covered ≡ length l.trie.entries;
}
