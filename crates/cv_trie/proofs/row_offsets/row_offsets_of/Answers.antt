use Rattle.std.proofs.Common.{◌≡◌, ◌∙◌, inl, inr, get_or, slice_set, get_or-set_other, get_or-set_same, arith}
use Rattle.std.proofs.lemmas.Bool.{cases_eq}
use Rattle.std.proofs.lemmas.List.{length-set}
use Rattle.cv_trie.proofs.row_offsets.row_offsets_of.Goals as goal

pub loop-byte-preserved : goal.loop-byte-preserved
loop-byte-preserved c =
    let i = c.loop-byte.invariant in
    let offsets = c.loop-byte.offsets.items in
    let byte = c.loop-byte.byte in
    let v = c.offset_of.result in
    let inside = get_or-set_same offsets byte v 0 in
    let here : get_or (slice_set offsets byte v) byte 0 ≡ v = inside (omega (arith, i.long)) in
    record {
      long = length-set offsets byte v ∙ i.long;
      single = λ b low h. elim (cases_eq b byte) [
        | inl same ↦ rw same (here ∙ c.offset_of.ensures.single (omega arith))
        | inr ne ↦ get_or-set_other offsets byte b v 0 ne ∙ i.single b low (omega arith)
      ];
      first = λ b least h. elim (cases_eq b byte) [
        | inl same ↦ rw same (here ∙ c.offset_of.ensures.first (omega arith))
        | inr ne ↦ get_or-set_other offsets byte b v 0 ne ∙ i.first b least (omega arith)
      ];
    }

pub returns-clause-offsets : goal.returns-clause-offsets
returns-clause-offsets c = λ some. (
    let i = c.loop-byte.invariant in
    record {
      long = i.long;
      within = λ b low. omega (arith, i.single b low (omega arith), c.put_singles.ensures.size);
      single = λ b low. rw (i.single b low (omega arith)) (c.put_singles.ensures.singles b low);
      first = λ b least h. i.first b least (omega arith);
    })
