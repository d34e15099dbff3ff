use Rattle.std.proofs.Common.{◌≡◌, ℕ, [], ◌∷◌, Some, refl, sym, ◌∙◌, arith, below_more}
use Rattle.cv_base.specs.Items.{taken}
use Rattle.cv_base.specs.declared.state.ReadState.TheVariants as read
use Rattle.cv_byte_trie.specs.Tables.{edge_of}
use Rattle.cv_trie.specs.Charmaps.{map_reads}
use Rattle.cv_trie.proofs.Following.{root_leaf}
use Rattle.cv_trie.proofs.HeldPairs.{has_pair}
use Rattle.cv_trie.proofs.OneByte.{one_led}
use Rattle.cv_trie.proofs.ascii.does_read_ascii.Goals as goal

pub bounds-entries-code : goal.bounds-entries-code
bounds-entries-code c =
    let leaf = root_leaf c.args.trie.now.entries (edge_of c.args.trie.now.steps) _ c.assert_leads.ensures.trie
    c.loop-byte.byte c.step-code.result (omega arith) c.step-code.ensures c.if-code-ge-TAIL.false in
    rw c.entries.ensures.value leaf.0

pub loop-byte-preserved : goal.loop-byte-preserved
loop-byte-preserved c =
    let pairs = c.args.trie.now.entries in
    let byte = c.loop-byte.byte in
    let one = one_led pairs _ c.entries.ensures.value c.entries.ensures.entries (edge_of c.args.trie.now.steps) _
    c.assert_leads.ensures.trie byte c.step-code.result c.index-entries-code.result (omega arith)
    c.step-code.ensures c.if-code-ge-TAIL.false c.index-entries-code.is in
    let is : c.index-entries-code.result.1 ≡ byte =
    sym c.character.ensures ∙ sym c.value.ensures.number ∙ c.if-value-byte.false in
    let there = (has_pair pairs (byte ∷ [], c.index-entries-code.result.1)).0 one.1 in
    below_more (λ (b : ℕ). map_reads pairs read.Start (b ∷ []) (taken 1 (Some b) read.Start)) byte
    c.loop-byte.invariant (byte, rw is at there, refl)
