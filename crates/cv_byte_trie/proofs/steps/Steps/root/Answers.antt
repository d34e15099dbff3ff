use Rattle.std.proofs.Common.{◌≡◌, ◌+◌, ◌*◌, ◌≤◌, ℕ, List, length, get_or, get_or-take, sym, ◌∙◌, ap, arith}
use Rattle.std.proofs.lemmas.List.{get_or_default, length-take-le}
use Rattle.cv_byte_trie.specs.Tries.{none}
use Rattle.cv_byte_trie.specs.Tables.{edge_at}
use Rattle.cv_byte_trie.proofs.steps.Steps.root.Goals as goal

pub slice_bounds-result-end : goal.slice_bounds-result-end
slice_bounds-result-end c =
    let s = c.requires in
    sym (length-take-le 256 c.deref.result.now (rw c.deref.ensures.value (s.whole 0 0 s.some s.root)))

pub returns-clause-size : goal.returns-clause-size
returns-clause-size c =
    let s = c.requires in
    length-take-le 256 c.deref.result.now (rw c.deref.ensures.value (s.whole 0 0 s.some s.root))

pub returns-clause-edges : goal.returns-clause-edges
returns-clause-edges c b low =
    let s = c.requires in
    let t = c.args.self.now in
    let whole : 256 ≤ length t.tables.items = s.whole 0 0 s.some s.root in
    let at : b ≡ 0 * 256 + b = omega arith in
    get_or-take 256 c.deref.result.now b 0 low ∙ ap (λ (x : List ℕ). get_or x b 0) c.deref.ensures.value
    ∙ get_or_default t.tables.items b 0 none (omega arith)
    ∙ ap (λ (i : ℕ). get_or t.tables.items i none) at ∙ sym (ap (edge_at t 0 b) s.root)
