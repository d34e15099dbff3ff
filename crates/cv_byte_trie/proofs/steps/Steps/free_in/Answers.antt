use Rattle.std.proofs.Common.{◌≡◌, ◌<◌, ◌+◌, ◌∙◌, ℕ, length, ap, sym, arith, inl, inr}
use Rattle.std.proofs.lemmas.Bool.{cases_eq}
use Rattle.cv_byte_trie.specs.Tables.{edge_in}
use Rattle.cv_byte_trie.specs.declared.node.Edge.{Edge}
use Rattle.cv_byte_trie.proofs.Edges.{edge_read}
use Rattle.cv_byte_trie.proofs.steps.Steps.free_in.Goals as goal

pub loop-at-preserved : goal.loop-at-preserved
loop-at-preserved c =
    let l = c.loop-at in
    let edges = c.args.self.now.edges.items in
    let k = c.args.start + l.at in
    let low : k < length edges = omega (arith, c.requires.within, c.loop-at-test.true) in
    let own : c.index.result.now.byte ≡ (edge_in edges k).byte =
    ap (λ (y : Edge). y.byte) (edge_read edges k c.index.result.now low c.index.ensures) in
    record {
      few = omega (arith, c.nearer-free.ensures.few, l.invariant.few);
      none = λ b j from to here. elim (cases_eq j l.at) [
        | inl e ↦ λ f. c.nearer-free.ensures.before b from to
            (own ∙ ap (λ (x : ℕ). (edge_in edges (c.args.start + x)).byte) (sym e) ∙ f)
        | inr e ↦ l.invariant.none b j from (omega (arith, to, c.nearer-free.ensures.few)) (omega arith)
      ];
    }
