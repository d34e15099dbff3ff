use Rattle.std.proofs.Common.{◌+◌, ◌<◌, List, length, subst, sym, ◌∙◌}
use Rattle.cv_base.specs.Items.{Begins}
use Rattle.cv_byte_trie.specs.Entries.{Entry, bytes_at}
use Rattle.cv_byte_trie.specs.Tables.{edge_of}
use Rattle.cv_byte_trie.specs.Private.Comparisons.{AgreeFor}
use Rattle.cv_byte_trie.proofs.Followed.{tail_low}
use Rattle.cv_byte_trie.proofs.Indexing.{leaf_begins, beside_deep}
use Rattle.cv_byte_trie.proofs.byte_trie.ByteTrie.add.Goals as goal

pub walk-requires-clause-indexed : goal.walk-requires-clause-indexed
walk-requires-clause-indexed c = (c.self.inside.entries.items, c.self.invariant)

pub met-requires-clause-prefix : goal.met-requires-clause-prefix
met-requires-clause-prefix c =
    let x = c.args.bytes.now in
    let p = c.in-Leaf.index in
    let es = c.self.inside.entries.items in
    subst (λ (es : List Entry). Begins (bytes_at es p) x) (sym c.deref.ensures.value)
    (leaf_begins es x p (c.in-Leaf.depth + 1) (c.in-Leaf.ensures es c.self.invariant).2)

pub compare-requires : goal.compare-requires
compare-requires c =
    let steps = c.self.inside.steps in
    let es = c.self.inside.entries.items in
    subst (λ (es : List Entry). c.in-Tail.tail.index < length es) (sym c.deref-in-Tail.ensures.value)
    (tail_low es c.self.invariant.apart (edge_of steps) (length steps.nodes.items) c.args.bytes.now c.in-Tail.tail
    (c.in-Tail.ensures es c.self.invariant))

pub met-requires-in-Held-clause-low : goal.met-requires-in-Held-clause-low
met-requires-in-Held-clause-low c =
    let steps = c.self.inside.steps in
    let es = c.self.inside.entries.items in
    subst (λ (es : List Entry). c.in-Tail.tail.index < length es) (sym c.deref-in-Held.ensures.value)
    (tail_low es c.self.invariant.apart (edge_of steps) (length steps.nodes.items) c.args.bytes.now c.in-Tail.tail
    (c.in-Tail.ensures es c.self.invariant))

pub met-requires-in-Held-clause-prefix : goal.met-requires-in-Held-clause-prefix
met-requires-in-Held-clause-prefix c =
    subst (λ (es : List Entry). Begins (bytes_at es c.in-Tail.tail.index) c.args.bytes.now)
    (c.deref-in-Tail.ensures.value ∙ sym c.deref-in-Held.ensures.value) c.in-Held.ensures

pub enter_beside-requires-clause-deep : goal.enter_beside-requires-clause-deep
enter_beside-requires-clause-deep c =
    let steps = c.self.inside.steps in
    let es = c.self.inside.entries.items in
    let x = c.args.bytes.now in
    let p = c.in-Tail.tail.index in
    let n = c.in-Parts.common in
    let parts = subst
    (λ (y : List Entry). AgreeFor (bytes_at y p) x n × (n < length (bytes_at y p)) × (n < length x))
    c.deref-in-Tail.ensures.value c.in-Parts.ensures in
    beside_deep es c.self.invariant.apart steps steps x c.in-Tail.tail (c.in-Tail.ensures es c.self.invariant) n
    parts.0 parts.1 parts.2
