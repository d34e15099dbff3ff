use Rattle.std.proofs.Common.{◌≡◌, arith}
use Rattle.cv_byte_trie.specs.Tables.{node_at}
use Rattle.cv_byte_trie.specs.declared.node.Node.TheVariants.{Few}
use Rattle.cv_byte_trie.proofs.Edges.{node_read, edge_none}
use Rattle.cv_byte_trie.proofs.steps.Steps.free_from.Goals as goal

pub free_in-requires-clause-within : goal.free_in-requires-clause-within
free_in-requires-clause-within c =
    c.requires.sound.within c.args.node c.in-Few.size c.in-Few.start c.requires.low (node_read c.args.self.now
    c.args.node c.index.result.now (Few c.in-Few.size c.in-Few.start) c.requires.low c.index.ensures c.in-Few.is)

pub returns-in-Few-clause-free : goal.returns-in-Few-clause-free
returns-in-Few-clause-free c =
    let t = c.args.self.now in
    let few : node_at t c.args.node ≡ Few c.in-Few.size c.in-Few.start = node_read t c.args.node c.index.result.now
    (Few c.in-Few.size c.in-Few.start) c.requires.low c.index.ensures c.in-Few.is in
    λ b from to. edge_none t c.requires.sound c.args.node c.in-Few.size c.in-Few.start c.requires.low few b
    (let short = c.free_in.ensures.few in omega (arith, c.requires.bytes)) (λ k l. c.free_in.ensures.free b k from to l)
