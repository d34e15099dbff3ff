use Rattle.std.proofs.Common.{◌≡◌, ◌<◌, ◌+◌, ◌∙◌, ℕ, arith, length}
use Rattle.std.proofs.lemmas.List.{length-set}
use Rattle.cv_trie.specs.Private.Ones.{no_character}
use Rattle.cv_trie.proofs.OneByte.{ones_more}
use Rattle.cv_trie.proofs.TwoBytes.{rows_set}
use Rattle.cv_trie.proofs.singles.Singles.of.Goals as goal
use Rattle.cv_trie.proofs.singles.Singles.of.Goals.{then-are_many, else-are_many}

pub loop-byte-preserved : goal.loop-byte-preserved
loop-byte-preserved c =
    let i = c.loop-byte.invariant in
    let pairs = c.args.trie.now.entries in
    let cells = c.loop-byte.cells.items in
    let byte = c.loop-byte.byte in
    let size = c.loop-byte.size in
    let low : byte < length cells = omega (arith, i.long) in
    elim c.if-are_many.branch [
      | then-are_many w ↦ (
          let v : ℕ = no_character + size in
          rw (w.cells-is, w.size-is) (record {
            long = length-set cells byte v ∙ i.long;
            ones = ones_more pairs cells byte v low i.ones (λ l. absurd (omega arith));
            rows = rows_set cells byte size (no_character + size) (size + 256) i.rows low (omega arith) (omega arith)
                (λ _. omega arith);
            few = omega (arith, i.few);
          }))
      | else-are_many w ↦ (
          let v = w.single_of.result in
          rw (w.cells-is, w.size-is) (record {
            long = length-set cells byte v ∙ i.long;
            ones = ones_more pairs cells byte v low i.ones w.single_of.ensures.one;
            rows = rows_set cells byte size w.single_of.result size i.rows low
                (omega (arith, w.single_of.ensures.least, i.rows.some))
                (omega arith) (λ own. absurd (omega (arith, w.single_of.ensures.least)));
            few = omega (arith, i.few);
          }))
    ]

pub invariant_of-result : goal.invariant_of-result
invariant_of-result c =
    let i = c.loop-byte.invariant in
    let all : c.loop-byte.byte ≡ 256 = omega arith in
    record { long = i.long; rows = rw all at i.rows; few = omega (arith, i.few) }
