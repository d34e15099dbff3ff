use Rattle.std.proofs.Common.{◌+◌, ◌<◌, List, ℕ, length, subst, sym}
use Rattle.cv_base.specs.Items.{Begins}
use Rattle.cv_byte_trie.specs.Entries.{Entry, bytes_at}
use Rattle.cv_byte_trie.specs.Index.{Index}
use Rattle.cv_byte_trie.specs.Results.{MeetsNone, GoesOnBehind}
use Rattle.cv_byte_trie.specs.Tables.{edge_of}
use Rattle.cv_byte_trie.specs.Private.Comparisons.{AgreeFor}
use Rattle.cv_byte_trie.proofs.Agreeing.{agree_flip, agree_not}
use Rattle.cv_byte_trie.proofs.Followed.{vacant_meets_none, tail_low, tail_meets_none}
use Rattle.cv_byte_trie.proofs.Indexing.{leaf_begins}
use Rattle.cv_byte_trie.proofs.byte_trie.ByteTrie.find.Goals as goal

pub walk-requires-clause-indexed : goal.walk-requires-clause-indexed
walk-requires-clause-indexed c = (c.self.inside.entries.items, c.self.invariant)

pub returns-in-Leaf : goal.returns-in-Leaf
returns-in-Leaf c =
    let x = c.args.text.now in
    let p = c.in-Leaf.index in
    let es = c.self.inside.entries.items in
    let leaf = c.in-Leaf.ensures es c.self.invariant in
    subst (λ (i : Index). (p < length i.entries) × Begins (bytes_at i.entries p) x) c.self.view_is
    (leaf.0, leaf_begins es x p (c.in-Leaf.depth + 1) leaf.2)

pub compare-requires : goal.compare-requires
compare-requires c =
    let steps = c.self.inside.steps in
    let es = c.self.inside.entries.items in
    subst (λ (es : List Entry). c.in-Tail.tail.index < length es) (sym c.deref.ensures.value)
    (tail_low es c.self.invariant.apart (edge_of steps) (length steps.nodes.items) c.args.text.now c.in-Tail.tail
    (c.in-Tail.ensures es c.self.invariant))

pub returns-in-Held : goal.returns-in-Held
returns-in-Held c =
    let steps = c.self.inside.steps in
    let es = c.self.inside.entries.items in
    let x = c.args.text.now in
    let p = c.in-Tail.tail.index in
    let low = tail_low es c.self.invariant.apart (edge_of steps) (length steps.nodes.items) x c.in-Tail.tail
    (c.in-Tail.ensures es c.self.invariant) in
    let held = subst (λ (y : List Entry). Begins (bytes_at y p) x) c.deref.ensures.value c.in-Held.ensures in
    subst (λ (i : Index). (p < length i.entries) × Begins (bytes_at i.entries p) x) c.self.view_is (low, held)

pub returns-in-Inside-compare : goal.returns-in-Inside-compare
returns-in-Inside-compare c =
    let steps = c.self.inside.steps in
    let es = c.self.inside.entries.items in
    let x = c.args.text.now in
    let p = c.in-Tail.tail.index in
    let low = tail_low es c.self.invariant.apart (edge_of steps) (length steps.nodes.items) x c.in-Tail.tail
    (c.in-Tail.ensures es c.self.invariant) in
    let inside = subst (λ (y : List Entry). Begins x (bytes_at y p) × (length x < length (bytes_at y p)))
    c.deref.ensures.value c.in-Inside-compare.ensures in
    subst (λ (i : Index). (q : ℕ) × GoesOnBehind i.entries x q) c.self.view_is
    (p, record { low = low; front = inside.0; longer = inside.1 })

pub returns-in-Inside : goal.returns-in-Inside
returns-in-Inside c =
    subst (λ (i : Index). (q : ℕ) × GoesOnBehind i.entries c.args.text.now q) c.self.view_is
    (c.in-Inside.ensures c.self.inside.entries.items c.self.invariant)

pub returns-in-Parts : goal.returns-in-Parts
returns-in-Parts c =
    let steps = c.self.inside.steps in
    let es = c.self.inside.entries.items in
    let x = c.args.text.now in
    let p = c.in-Tail.tail.index in
    let n = c.in-Parts.field-0 in
    let parts = subst
    (λ (y : List Entry). AgreeFor (bytes_at y p) x n × (n < length (bytes_at y p)) × (n < length x))
    c.deref.ensures.value c.in-Parts.ensures in
    subst (λ (i : Index). MeetsNone i.entries x) c.self.view_is
    (tail_meets_none es c.self.invariant.apart (edge_of steps) (length steps.nodes.items) x c.in-Tail.tail
    (c.in-Tail.ensures es c.self.invariant) (agree_not (bytes_at es p) x n parts.0 parts.1)
    (agree_not x (bytes_at es p) n (agree_flip (bytes_at es p) x n parts.0) parts.2))

pub returns-in-Vacant : goal.returns-in-Vacant
returns-in-Vacant c =
    let es = c.self.inside.entries.items in
    let steps = c.self.inside.steps in
    subst (λ (i : Index). MeetsNone i.entries c.args.text.now) c.self.view_is
    (vacant_meets_none es c.self.invariant.apart (edge_of steps) (length steps.nodes.items) c.args.text.now
    c.in-Vacant.depth c.in-Vacant.node (c.in-Vacant.ensures es c.self.invariant))
