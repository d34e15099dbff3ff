use Rattle.std.proofs.Common.{arith}
use Rattle.cv_byte_trie.specs.Tables.{edge_of}
use Rattle.cv_trie.proofs.Following.{root_leaf}
use Rattle.cv_trie.proofs.OneByte.{one_led}
use Rattle.cv_trie.proofs.singles.single_of.Goals as goal

pub bounds-entries-code : goal.bounds-entries-code
bounds-entries-code c =
    let leaf = root_leaf c.args.trie.now.entries (edge_of c.args.trie.now.steps) _ c.assert_leads.ensures.trie
    c.args.byte c.step-code.result (omega arith) c.step-code.ensures c.if-code-lt-TAIL.true in
    rw c.entries-entries.ensures.value leaf.0

pub returns-then-code-lt-TAIL-clause-one : goal.returns-then-code-lt-TAIL-clause-one
returns-then-code-lt-TAIL-clause-one c = λ _. rw (c.value.ensures.number, c.character-character.ensures)
    (one_led c.args.trie.now.entries _ c.entries-entries.ensures.value c.entries-entries.ensures.entries
    (edge_of c.args.trie.now.steps) _ c.assert_leads.ensures.trie c.args.byte c.step-code.result
    c.index-entries-code.result (omega arith) c.step-code.ensures c.if-code-lt-TAIL.true c.index-entries-code.is)
