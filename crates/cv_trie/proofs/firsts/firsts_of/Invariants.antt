use Rattle.std.proofs.Common.{◌≡◌, length}
use Rattle.cv_trie.proofs.firsts.firsts_of.Given as goal

abbrev pub invariant-loop-index : goal.invariant-loop-index
invariant-loop-index l = record {
  others : length l.others ≡ 256;
  triples : length l.triples ≡ 256;
}
