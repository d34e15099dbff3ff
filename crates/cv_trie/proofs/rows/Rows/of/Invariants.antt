use Rattle.cv_trie.specs.Private.Twos.{AreTwos}
use Rattle.cv_trie.proofs.rows.Rows.of.Given as goal

abbrev pub invariant-loop-index : goal.invariant-loop-index
invariant-loop-index l = AreTwos l.entries l.singles.cells.items l.cells.items
