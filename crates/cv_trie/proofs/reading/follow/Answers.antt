use Rattle.std.proofs.Common.{◌≡◌, ◌+◌, ◌-◌, ◌<◌, refl, sym, arith, get_or, length, drop, length-drop}
use Rattle.std.proofs.lemmas.List.{get_or-drop}
use Rattle.cv_byte_trie.specs.Tries.{tail_code, node_code}
use Rattle.cv_byte_trie.specs.Tables.{edge_of}
use Rattle.cv_trie.proofs.Following.{followed_first, followed_on}
use Rattle.cv_trie.proofs.reading.follow.Goals as goal

pub loop-code-init : goal.loop-code-init
loop-code-init c =
    let b = get_or c.args.input.now c.args.used 0 in
    let byte : b < 256 = (let h = c.type_inv.input c.args.used in omega arith) in
    record {
      follows = followed_first c.args.trie.now.entries c.len-pairs.ensures.entries (edge_of c.args.trie.now.steps) _
          c.assert_leads.ensures.trie c.args.input.now c.args.used b _ c.requires.within refl byte
          (c.requires.root b byte);
      within = omega (arith, length-drop c.args.used c.args.input.now, c.requires.within);
    }

pub step-code-requires : goal.step-code-requires
step-code-requires c =
    let code : c.loop-code.code ≡ node_code (c.loop-code.code - 2147483649) = omega (arith, c.loop-code-test.true) in
    (c.loop-code.invariant.follows.node (c.loop-code.code - 2147483649) code).low

pub loop-code-preserved : goal.loop-code-preserved
loop-code-preserved c =
    let n = c.loop-code.code - 2147483649 in
    let code : c.loop-code.code ≡ node_code n = omega (arith, c.loop-code-test.true) in
    let rest = drop c.args.used c.args.input.now in
    let more : c.loop-code.size < length rest =
    omega (arith, length-drop c.args.used c.args.input.now, c.if-size-input.true) in
    let b = get_or c.args.input.now (c.args.used + c.loop-code.size) 0 in
    let byte : b < 256 = (let h = c.type_inv.input (c.args.used + c.loop-code.size) in omega arith) in
    record {
      follows = followed_on c.args.trie.now.entries c.len-pairs.ensures.entries (edge_of c.args.trie.now.steps)
          _ rest c.loop-code.size n (c.loop-code.invariant.follows.node n code) b c.step-code.result more
          (sym (get_or-drop c.args.used c.args.input.now c.loop-code.size 0)) byte c.step-code.ensures;
      within = omega arith;
    }

pub whole-requires-clause-low : goal.whole-requires-clause-low
whole-requires-clause-low c =
    let p = c.loop-code.code - 1073741824 in
    let code : c.loop-code.code ≡ tail_code p = omega (arith, c.if-code-ge-TAIL.true) in
    rw c.entries.ensures.value (c.loop-code.invariant.follows.tail p code (omega (arith, c.if-code-lt-NONE.true)))
