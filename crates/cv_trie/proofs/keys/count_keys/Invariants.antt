use Rattle.cv_trie.specs.Private.Twos.{AddsNoCharacter}
use Rattle.cv_trie.proofs.keys.count_keys.Given as goal

abbrev pub invariant-loop-k : goal.invariant-loop-k
invariant-loop-k g l = AddsNoCharacter l.fn.rows.cells.items l.rows.cells.items
