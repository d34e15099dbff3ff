use Rattle.std.proofs.Common.{List, length}
use Rattle.cv_byte_trie.specs.Entries.{Entry}
use Rattle.cv_byte_trie.specs.Tries.{IsAt}
use Rattle.cv_byte_trie.specs.Tables.{edge_of}
use Rattle.cv_byte_trie.specs.Private.Indexed.{IsIndexed}
use Rattle.cv_byte_trie.proofs.walking.walk.Given as goal

abbrev pub invariant-loop-depth : goal.invariant-loop-depth
invariant-loop-depth l = (entries : List Entry) → IsIndexed entries l.steps
    → IsAt (edge_of l.steps) (length l.steps.nodes.items) entries l.text l.depth l.node
