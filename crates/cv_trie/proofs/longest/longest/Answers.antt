use Rattle.std.proofs.Common.{List, subst, arith}
use Rattle.cv_byte_trie.specs.Entries.{Entry}
use Rattle.cv_trie.specs.Private.Compiled.{HaveAtMost}
use Rattle.cv_trie.proofs.longest.longest.Goals as goal

pub returns : goal.returns
returns c =
    let i = c.loop-index.invariant in
    subst (λ (x : List Entry). HaveAtMost c.loop-index.most x) c.entries-entries.ensures.value
    (record { few = i.few; each = λ k low. i.each k (omega arith) })
