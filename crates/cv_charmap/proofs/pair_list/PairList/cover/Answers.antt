use Rattle.std.proofs.Common.{◌≡◌, ◌-◌, ◌≤◌, ◌∙◌, length, sym, subst, arith, List, vec_len}
use Rattle.cv_charmap.specs.Entries.{Pair}
use Rattle.cv_charmap.specs.Private.Covers.{IsPairList, HasEntries, AreCovered}
use Rattle.cv_charmap.specs.declared.covered.Covered.{Covered}
use Rattle.cv_charmap.proofs.Covering.{covered_padded, put_back, list_marked}
use Rattle.cv_charmap.proofs.pair_list.PairList.cover.Goals as goal

pub invariant_of-self : goal.invariant_of-self
invariant_of-self c = subst (λ (x : List Covered). IsPairList c.self.inside.trie.entries x)
    (sym c.in_err-resize.ensures.items) c.self.invariant

pub mark-requires-clause-covered : goal.mark-requires-clause-covered
mark-requires-clause-covered c =
    let all = c.self.inside.trie.entries in
    let notes = c.self.inside.covered.items in
    let long : length notes ≤ c.len.result = (let w = c.self.invariant.within in omega (arith, c.len.ensures.value)) in
    subst (AreCovered all)
    (sym c.deref_mut.ensures.value) (covered_padded all notes c.resize.new.self.items c.len.result
    (c.len.result - vec_len c.self.inside.covered) long c.in_ok-resize.ensures.items c.self.invariant.covered)

pub invariant_of-self-2 : goal.invariant_of-self-2
invariant_of-self-2 c =
    let all = c.self.inside.trie.entries in
    let resized = c.resize.new.self in
    let size : length resized.items ≡ length all = sym resized.ok.0 ∙ c.in_ok-resize.ensures.len
    ∙ c.len.ensures.value in
    subst (IsPairList all) (sym
    (put_back resized.len c.mark.new.covered resized.items (c.mark.ensures.long ∙ sym size) resized.ok.0)) (list_marked
    all c.self.inside.covered.items c.mark.new.covered c.self.invariant c.mark.ensures.covered c.mark.ensures.long)

pub mark-requires-clause-has : goal.mark-requires-clause-has
mark-requires-clause-has c = subst (λ (x : List Pair). HasEntries x c.args.start.now.hex c.args.start.now.first
    c.args.start.now.bytes.now c.args.end) (sym c.self.view_is) c.requires.has
