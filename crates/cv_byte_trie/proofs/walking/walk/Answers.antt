use Rattle.std.proofs.Common.{◌≡◌, ◌-◌, refl, sym, ◌∙◌, ap, arith, rules, length, get_or}
use Rattle.cv_byte_trie.specs.Tries.{node_code, tail_code}
use Rattle.cv_byte_trie.specs.Tables.{edge_of}
use Rattle.cv_byte_trie.proofs.Followed.{leads_to_leaf, leads_to_tail, leads_to_node, ends_inside}
use Rattle.cv_byte_trie.proofs.walking.walk.Goals as goal

pub loop-depth-init : goal.loop-depth-init
loop-depth-init c = λ entries x.
    let t = x.leads.trie in
    record { way = x.leads.way; trie = t; low = t.some; at = rw t.root (search rules); deep = ap length t.root }

pub edge-code-requires-clause-sound : goal.edge-code-requires-clause-sound
edge-code-requires-clause-sound c = c.requires.indexed.1.sound

pub edge-code-requires-clause-low : goal.edge-code-requires-clause-low
edge-code-requires-clause-low c = (c.loop-depth.invariant c.requires.indexed.0 c.requires.indexed.1).low

pub returns-then-code-lt-TAIL : goal.returns-then-code-lt-TAIL
returns-then-code-lt-TAIL c = λ entries x.
    let i = c.loop-depth in
    let b = get_or c.args.text.now i.depth 0 in
    let leaf = leads_to_leaf entries x.apart (edge_of c.args.steps.now) (length c.args.steps.now.nodes.items)
    c.args.text.now i.depth i.node (i.invariant entries x) b c.loop-depth-test.true refl
    (let h = c.type_inv.text i.depth in omega arith) c.edge-code.result c.edge-code.ensures c.if-code-lt-TAIL.true in
    (leaf.0, c.loop-depth-test.true, leaf.1)

pub returns-then-code-lt-NONE : goal.returns-then-code-lt-NONE
returns-then-code-lt-NONE c = λ entries x.
    let i = c.loop-depth in
    let b = get_or c.args.text.now i.depth 0 in
    let code : c.edge-code.result ≡ tail_code (c.edge-code.result - 1073741824) = omega arith in
    leads_to_tail entries x.apart (edge_of c.args.steps.now) (length c.args.steps.now.nodes.items)
    c.args.text.now i.depth i.node (i.invariant entries x) b c.loop-depth-test.true refl
    (let h = c.type_inv.text i.depth in omega arith) (c.edge-code.result - 1073741824)
    (sym c.edge-code.ensures ∙ code) (omega arith)

pub loop-depth-preserved : goal.loop-depth-preserved
loop-depth-preserved c = λ entries x.
    let i = c.loop-depth in
    let b = get_or c.args.text.now i.depth 0 in
    let code : c.edge-code.result ≡ node_code (c.edge-code.result - 2147483649) = omega arith in
    leads_to_node entries x.apart (edge_of c.args.steps.now) (length c.args.steps.now.nodes.items)
    c.args.text.now i.depth i.node (i.invariant entries x) b c.loop-depth-test.true refl
    (let h = c.type_inv.text i.depth in omega arith) (c.edge-code.result - 2147483649) (sym c.edge-code.ensures ∙ code)

pub returns : goal.returns
returns c = λ entries x.
    let i = c.loop-depth in
    ends_inside entries x.apart (edge_of c.args.steps.now) (length c.args.steps.now.nodes.items) c.args.text.now
    i.depth i.node (i.invariant entries x) (omega (arith, c.loop-depth-test.false)) c.requires.some
