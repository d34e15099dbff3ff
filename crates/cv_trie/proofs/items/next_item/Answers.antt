use Rattle.std.proofs.Common.{List, subst}
use Rattle.cv_byte_trie.specs.Entries.{Entry, AreApart}
use Rattle.cv_trie.proofs.MapItems.{some_bytes, inside_incomplete, none_ill}
use Rattle.cv_trie.proofs.items.next_item.Goals as goal

pub returns-in-Inside : goal.returns-in-Inside
returns-in-Inside c = λ state.
    let on = c.in-Inside.ensures in
    let apart =
    subst (λ (x : List Entry). AreApart x) c.entries-entries.ensures.value c.entries-entries.ensures.entries.apart in
    inside_incomplete c.args.trie.now.entries apart state c.args.input.now on.0
    (some_bytes c.args.input.now c.is_empty.result c.is_empty.ensures c.if-is_empty.false) on.1

pub returns-in-Nothing : goal.returns-in-Nothing
returns-in-Nothing c = λ state. none_ill c.args.trie.now.entries state c.args.input.now
    (some_bytes c.args.input.now c.is_empty.result c.is_empty.ensures c.if-is_empty.false) c.in-Nothing.ensures
