use Rattle.std.proofs.Common.{◌≡◌, ◌∙◌, ◌<◌, ◌+◌, length, sym, ap, arith}
use Rattle.cv_byte_trie.specs.Tables.{node_at}
use Rattle.cv_byte_trie.specs.declared.node.Edge.{Edge}
use Rattle.cv_byte_trie.specs.declared.node.Node.TheVariants.{Few, Table}
use Rattle.cv_byte_trie.proofs.Edges.{node_read, edge_read, edge_found, edge_none}
use Rattle.cv_byte_trie.proofs.steps.Steps.edge.Goals as goal

pub index-requires-in-Table : goal.index-requires-in-Table
index-requires-in-Table c =
    let t = c.args.self.now in
    let whole = c.requires.sound.whole c.args.node c.in-Table.number c.requires.low (node_read t c.args.node
    c.index.result.now (Table c.in-Table.number) c.requires.low c.index.ensures c.in-Table.is) in
    omega (arith, t.tables.ok.0)

pub find-requires-clause-some : goal.find-requires-clause-some
find-requires-clause-some c =
    c.requires.sound.filled c.args.node c.in-Few.size c.in-Few.start c.requires.low (node_read c.args.self.now
    c.args.node c.index.result.now (Few c.in-Few.size c.in-Few.start) c.requires.low c.index.ensures c.in-Few.is)

pub find-requires-clause-within : goal.find-requires-clause-within
find-requires-clause-within c =
    c.requires.sound.within c.args.node c.in-Few.size c.in-Few.start c.requires.low (node_read c.args.self.now
    c.args.node c.index.result.now (Few c.in-Few.size c.in-Few.start) c.requires.low c.index.ensures c.in-Few.is)

pub returns-in-Some : goal.returns-in-Some
returns-in-Some c =
    let t = c.args.self.now in
    let few : node_at t c.args.node ≡ Few c.in-Few.size c.in-Few.start = node_read t c.args.node c.index.result.now
    (Few c.in-Few.size c.in-Few.start) c.requires.low c.index.ensures c.in-Few.is in
    let within = c.requires.sound.within c.args.node c.in-Few.size c.in-Few.start c.requires.low few in
    let f = c.in-Some.ensures in
    let k = c.in-Few.start + c.in-Some.at in
    let low : k < length t.edges.items = omega (arith, f.0) in
    ap (λ (y : Edge). y.code) (edge_read t.edges.items k c.index-in-Some.result.now low c.index-in-Some.ensures)
    ∙ sym (edge_found t c.requires.sound c.args.node c.in-Few.size c.in-Few.start c.requires.low few c.args.byte
    (omega arith) c.in-Some.at f.0 f.1)

pub returns-in-None : goal.returns-in-None
returns-in-None c =
    let t = c.args.self.now in
    let few : node_at t c.args.node ≡ Few c.in-Few.size c.in-Few.start = node_read t c.args.node c.index.result.now
    (Few c.in-Few.size c.in-Few.start) c.requires.low c.index.ensures c.in-Few.is in
    sym (edge_none t c.requires.sound c.args.node c.in-Few.size c.in-Few.start c.requires.low few c.args.byte
    (omega arith) c.in-None.ensures)
