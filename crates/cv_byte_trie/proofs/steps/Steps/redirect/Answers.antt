use Rattle.std.proofs.Common.{◌≡◌, ◌+◌, ◌∙◌, ◌<◌, [], append-nil, sym, arith, refl}
use Rattle.std.specs.Vec.{with_item}
use Rattle.cv_byte_trie.specs.Tables.{node_at}
use Rattle.cv_byte_trie.specs.declared.node.Node.TheVariants.{One, Few}
use Rattle.cv_byte_trie.specs.declared.steps.Steps.{Steps}
use Rattle.cv_byte_trie.proofs.Edges.{node_read, edge_none}
use Rattle.cv_byte_trie.proofs.GrownBlocks.{new_one, not_root}
use Rattle.cv_byte_trie.proofs.Keeping.{node_keeps}
use Rattle.cv_byte_trie.proofs.Setting.{slot_sets}
use Rattle.cv_byte_trie.proofs.steps.Steps.redirect.Goals as goal

pub returns-in-One-clause-sound : goal.returns-in-One-clause-sound
returns-in-One-clause-sound c =
    let t = c.args.self.now in
    let s = c.requires.sound in
    let one = node_read t c.args.node c.index.result.now
    (One c.in-One.byte c.in-One.code) c.requires.low c.index.ensures c.in-One.is in
    let u : Steps = record {
      nodes = with_item t.nodes c.args.node (One c.args.byte c.args.code);
      edges = t.edges;
      tables = t.tables;
    } in
    node_keeps t u s c.args.node c.requires.low (One c.args.byte c.args.code) refl (not_root t s c.args.node
    (One c.in-One.byte c.in-One.code) one (λ k e. absurd (cc))) [] (sym (append-nil t.edges.items)) []
    (sym (append-nil t.tables.items)) s.full (new_one t u c.args.byte c.args.code c.requires.leads)

pub returns-in-Some-clause-sets : goal.returns-in-Some-clause-sets
returns-in-Some-clause-sets c =
    let t = c.args.self.now in
    let s = c.requires.sound in
    let size = c.in-Few.size in
    let start = c.in-Few.start in
    let f = c.in-Some.ensures in
    let few : node_at t c.args.node ≡ Few size start =
    node_read t c.args.node c.index.result.now (Few size start) c.requires.low c.index.ensures c.in-Few.is in
    let byte : c.args.byte < 256 = omega arith in
    let u : Steps = record {
      nodes = t.nodes;
      edges = with_item t.edges (start + c.in-Some.at) (record { byte = c.args.byte; code = c.args.code });
      tables = t.tables;
    } in
    slot_sets t u s c.args.node c.args.byte c.args.code size start c.in-Some.at c.requires.low byte few f.0
    (λ j l e. s.once c.args.node size start j c.in-Some.at c.requires.low few l f.0 (e ∙ sym f.1) (rw f.1 byte))
    (λ d l h e. h (sym e ∙ f.1)) refl refl refl

pub returns-in_default-clause-sets : goal.returns-in_default-clause-sets
returns-in_default-clause-sets c =
    let t = c.args.self.now in
    let size = c.in-Few.size in
    let start = c.in-Few.start in
    let few : node_at t c.args.node ≡ Few size start =
    node_read t c.args.node c.index.result.now (Few size start) c.requires.low c.index.ensures c.in-Few.is in
    absurd (c.requires.there (edge_none t c.requires.sound c.args.node size start c.requires.low few c.args.byte
    (omega arith) (rw c.in_default.is at c.find.ensures)))
