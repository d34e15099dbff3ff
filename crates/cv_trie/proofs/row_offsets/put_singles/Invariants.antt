use Rattle.std.proofs.Common.{◌≡◌, ℕ, ◌+◌, ◌<◌, List, get_or, length}
use Rattle.cv_charmap.specs.Entries.{Pair}
use Rattle.cv_trie.specs.Private.Twos.{AreTwos}
use Rattle.cv_trie.proofs.row_offsets.put_singles.Given as goal

abbrev pub invariant-loop-byte : goal.invariant-loop-byte
invariant-loop-byte l = record {
  size : length l.rows.cells.items ≡ length l.fn.rows.cells.items;
  rows : (pairs : List Pair) → AreTwos pairs l.singles.cells.items l.fn.rows.cells.items
      → AreTwos pairs l.singles.cells.items l.rows.cells.items;
  singles : (b : ℕ) → b < l.byte → get_or l.rows.cells.items (l.start + b) 0 ≡ get_or l.singles.cells.items b 0;
}
