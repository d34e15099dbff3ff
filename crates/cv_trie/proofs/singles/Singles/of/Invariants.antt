use Rattle.std.proofs.Common.{◌≡◌, ◌+◌, ◌*◌, ◌≤◌, length}
use Rattle.cv_trie.specs.Private.Ones.{AreOnes}
use Rattle.cv_trie.specs.Private.Twos.{AreRows}
use Rattle.cv_trie.proofs.singles.Singles.of.Given as goal

abbrev pub invariant-loop-byte : goal.invariant-loop-byte
invariant-loop-byte l = record {
  long : length l.cells.items ≡ 256;
  ones : AreOnes l.trie.entries l.cells.items l.byte;
  rows : AreRows l.cells.items l.byte l.size;
  few : l.size ≤ l.byte * 256 + 256;
}
