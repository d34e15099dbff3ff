use Rattle.std.proofs.Common.{◌≡◌, ◌+◌, ℕ, List, ◌∙◌, sym, subst, replicate, arith}
use Rattle.cv_byte_trie.specs.Entries.{Entry, bytes_at, character_at}
use Rattle.cv_byte_trie.proofs.ReadEntries.{entry_bytes, entry_character}
use Rattle.cv_trie.specs.Private.Ones.{no_character}
use Rattle.cv_trie.specs.Private.Twos.{IsCell, AreTwos}
use Rattle.cv_trie.proofs.TwoBytes.{twos_none, twos_more}
use Rattle.cv_trie.proofs.rows.Rows.of.Goals.{then-cell-gt0, else-cell-gt0}
use Rattle.cv_trie.proofs.rows.Rows.of.Goals as goal

pub loop-index-init : goal.loop-index-init
loop-index-init c =
    let singles = c.args.singles.now in
    let empty : c.in_ok-cells.cells.items ≡ replicate (singles.size + 128) no_character =
    c.in_ok-cells.ensures.items_if_clones_equal (λ y e. e) in
    rw empty (twos_none c.entries-entries.result.now singles.cells.items singles.size singles.rows)

pub loop-index-preserved : goal.loop-index-preserved
loop-index-preserved c =
    elim c.if-cell-gt0.branch [
      | then-cell-gt0 w ↦ (
          let pairs = c.entries-entries.result.now in
          let singles = c.args.singles.now in
          let ones = singles.cells.items in
          let index = c.loop-index.index in
          let entry = c.index-entries-index.result in
          let cell = c.cell_for-cell.result in
          let cells = c.loop-index.cells.items in
          let bytes : bytes_at pairs index ≡ entry.0 =
          entry_bytes pairs index entry (omega arith) c.index-entries-index.is in
          let character = entry_character pairs index entry (omega arith) c.index-entries-index.is in
          let v : w.value.result ≡ character_at pairs index =
          w.value.ensures.number ∙ w.character.ensures ∙ sym character in
          let here = subst (λ (x : List ℕ). IsCell ones x cell) (sym bytes)
          (c.cell_for-cell.ensures w.if-cell-gt0.true) in
          rw w.cells-is (twos_more pairs c.entries-entries.ensures.entries ones cells singles.size singles.rows
          c.loop-index.invariant index cell w.value.result (omega arith) v here))
      | else-cell-gt0 w ↦ rw w.cells-is c.loop-index.invariant
    ]

pub returns : goal.returns
returns c = λ _. (
    let same = c.entries-entries.ensures.value in
    subst (λ (x : List Entry). AreTwos x c.args.singles.now.cells.items c.loop-index.cells.items) same
    c.loop-index.invariant)
