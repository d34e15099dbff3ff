use Rattle.std.proofs.Common.{◌≡◌, ◌+◌, arith, refl}
use Rattle.std.specs.Vec.{with_item}
use Rattle.cv_byte_trie.specs.Tables.{node_at}
use Rattle.cv_byte_trie.specs.declared.node.Node.TheVariants.{Few}
use Rattle.cv_byte_trie.specs.declared.steps.Steps.{Steps}
use Rattle.cv_byte_trie.proofs.Edges.{node_read, lacks}
use Rattle.cv_byte_trie.proofs.Keeping.{slot_keeps}
use Rattle.cv_byte_trie.proofs.Setting.{slot_sets}
use Rattle.cv_byte_trie.proofs.steps.Steps.set.Goals as goal

pub grow_block-requires-clause-lacks : goal.grow_block-requires-clause-lacks
grow_block-requires-clause-lacks c =
    let t = c.args.self.now in
    let few : node_at t c.args.node ≡ Few c.in-Few.size c.in-Few.start = node_read t c.args.node c.index.result.now
    (Few c.in-Few.size c.in-Few.start) c.requires.low c.index.ensures c.in-Few.is in
    lacks t c.requires.sound c.args.node c.in-Few.size c.in-Few.start c.requires.low few c.args.byte
    (omega arith) c.requires.vacant

pub grow_in_place-requires-clause-lacks : goal.grow_in_place-requires-clause-lacks
grow_in_place-requires-clause-lacks c =
    let t = c.args.self.now in
    let few : node_at t c.args.node ≡ Few c.in-Few.size c.in-Few.start = node_read t c.args.node c.index.result.now
    (Few c.in-Few.size c.in-Few.start) c.requires.low c.index.ensures c.in-Few.is in
    lacks t c.requires.sound c.args.node c.in-Few.size c.in-Few.start c.requires.low few c.args.byte
    (omega arith) c.requires.vacant

pub returns-in-Some-clause-sound : goal.returns-in-Some-clause-sound
returns-in-Some-clause-sound c =
    let t = c.args.self.now in
    let size = c.in-Few.size in
    let start = c.in-Few.start in
    let f = c.in-Some.ensures in
    let few : node_at t c.args.node ≡ Few size start =
    node_read t c.args.node c.index.result.now (Few size start) c.requires.low c.index.ensures c.in-Few.is in
    let none_has =
    lacks t c.requires.sound c.args.node size start c.requires.low few c.args.byte (omega arith) c.requires.vacant in
    let u : Steps = record {
      nodes = t.nodes;
      edges = with_item t.edges (start + c.in-Some.at) (record { byte = c.args.byte; code = c.args.code });
      tables = t.tables;
    } in
    slot_keeps t u c.requires.sound c.args.node c.args.byte c.args.code size start c.in-Some.at c.requires.low few f.0
    (λ j l e. absurd (none_has j l e)) c.requires.leads refl refl refl

pub returns-in-Some-clause-sets : goal.returns-in-Some-clause-sets
returns-in-Some-clause-sets c =
    let t = c.args.self.now in
    let size = c.in-Few.size in
    let start = c.in-Few.start in
    let f = c.in-Some.ensures in
    let few : node_at t c.args.node ≡ Few size start =
    node_read t c.args.node c.index.result.now (Few size start) c.requires.low c.index.ensures c.in-Few.is in
    let none_has =
    lacks t c.requires.sound c.args.node size start c.requires.low few c.args.byte (omega arith) c.requires.vacant in
    let u : Steps = record {
      nodes = t.nodes;
      edges = with_item t.edges (start + c.in-Some.at) (record { byte = c.args.byte; code = c.args.code });
      tables = t.tables;
    } in
    slot_sets t u c.requires.sound c.args.node c.args.byte c.args.code size start c.in-Some.at c.requires.low
    (omega arith) few f.0 (λ j l e. absurd (none_has j l e)) (λ d l _ e. omega (arith, f.1)) refl refl refl
