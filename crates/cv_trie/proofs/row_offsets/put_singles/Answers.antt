use Rattle.std.proofs.Common.{◌≡◌, ◌≢◌, ℕ, ◌+◌, ◌-◌, ◌<◌, ◌∙◌, get_or, slice_set, get_or-set_other, get_or-set_same}
use Rattle.std.proofs.Common.{below_more, length, arith}
use Rattle.std.proofs.lemmas.Grind.{get_or_default_zero}
use Rattle.std.proofs.lemmas.List.{length-set}
use Rattle.cv_trie.proofs.EightAtOnce.{rows_kept}
use Rattle.cv_trie.proofs.row_offsets.put_singles.Goals as goal

pub loop-byte-preserved : goal.loop-byte-preserved
loop-byte-preserved c =
    let i = c.loop-byte.invariant in
    let ones = c.args.singles.now.cells.items in
    let rows = c.loop-byte.rows.cells.items in
    let byte = c.loop-byte.byte in
    let start : ℕ = c.len-start.result - 128 in
    let v = c.index.result.now in
    let inside : byte < length ones = omega (arith, c.args.singles.now.long) in
    let is : v ≡ get_or ones byte 0 = omega (arith, get_or_default_zero ones byte v inside) in
    let after = slice_set rows (start + byte) v in
    let same = length-set rows (start + byte) v in
    record {
      size = same ∙ i.size;
      rows = λ pairs t. rows_kept pairs ones rows after start (omega (arith, i.size)) same
          (λ k low. (let ne : k ≢ start + byte = omega arith in get_or-set_other rows (start + byte) k v 0 ne))
          (i.rows pairs t);
      singles = below_more (λ (b : ℕ). get_or after (start + b) 0 ≡ get_or ones b 0) byte
          (λ b low. (
          let ne : start + b ≢ start + byte = omega arith in
          get_or-set_other rows (start + byte) (start + b) v 0 ne ∙ i.singles b low))
          (get_or-set_same rows (start + byte) v 0 (omega (arith, i.size)) ∙ is);
    }
