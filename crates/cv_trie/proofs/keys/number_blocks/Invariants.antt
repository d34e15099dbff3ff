use Rattle.std.proofs.Common.{◌≤◌, ◌*◌}
use Rattle.cv_trie.specs.Private.Twos.{AddsNoCharacter}
use Rattle.cv_trie.proofs.keys.number_blocks.Given as goal

abbrev pub invariant-loop-index : goal.invariant-loop-index
invariant-loop-index g l = record {
  few : l.size ≤ l.index * 4096;
  adds : AddsNoCharacter l.fn.rows.cells.items l.rows.cells.items;
}
