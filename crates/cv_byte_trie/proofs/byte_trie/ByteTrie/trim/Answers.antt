use Rattle.std.proofs.Common.{List, sym, subst}
use Rattle.cv_byte_trie.specs.Entries.{Entry}
use Rattle.cv_byte_trie.specs.Private.Indexed.{IsIndexed}
use Rattle.cv_byte_trie.proofs.byte_trie.ByteTrie.trim.Goals as goal

pub invariant_of-self : goal.invariant_of-self
invariant_of-self c =
    subst (λ (x : List Entry). IsIndexed x c.self.inside.steps) (sym c.shrink_to_fit.ensures.items) c.self.invariant
