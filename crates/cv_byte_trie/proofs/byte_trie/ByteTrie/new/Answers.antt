use Rattle.std.proofs.Common.{List, sym, subst}
use Rattle.cv_byte_trie.specs.Entries.{Entry}
use Rattle.cv_byte_trie.specs.Private.Indexed.{IsIndexed}
use Rattle.cv_byte_trie.proofs.Indexing.{indexed_none}
use Rattle.cv_byte_trie.proofs.byte_trie.ByteTrie.new.Goals as goal

pub invariant_of-result : goal.invariant_of-result
invariant_of-result c =
    let s = c.in_ok-steps.ensures in
    subst (λ (x : List Entry). IsIndexed x c.in_ok-steps.steps) (sym c.new-2.ensures.items)
    (indexed_none c.in_ok-steps.steps s.sound s.nodes s.edges s.tables s.empty)
