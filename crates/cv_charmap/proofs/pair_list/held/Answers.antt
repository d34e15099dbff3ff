use Rattle.std.proofs.Common.{◌≡◌, ◌≢◌, ◌∙◌, ap, sym}
use Rattle.cv_byte_trie.specs.Entries.{character_at}
use Rattle.cv_charmap.specs.Entries.{Pair}
use Rattle.cv_charmap.proofs.PairLists.{enters_again, entry_read}
use Rattle.cv_charmap.proofs.Meeting.{held_otherwise}
use Rattle.cv_charmap.proofs.pair_list.held.Goals as goal

pub returns-then-value : goal.returns-then-value
returns-then-value c =
    let all = c.args.trie.now.entries in
    let read = entry_read all c.entries.result.now c.args.index c.index-entries-index.result c.entries.ensures.value
    c.requires.low c.index-entries-index.is in
    let same : character_at all c.args.index ≡ c.args.character = ap (λ (q : Pair). q.1) (sym read)
    ∙ sym c.character.ensures ∙ sym c.value.ensures.number ∙ c.if-value.true ∙ c.value-2.ensures.number in
    enters_again all
    (c.args.bytes.now, c.args.character) c.requires.apart c.args.index c.requires.low c.requires.same same

pub returns-else-value : goal.returns-else-value
returns-else-value c =
    let all = c.args.trie.now.entries in
    let read = entry_read all c.entries.result.now c.args.index c.index-entries-index.result c.entries.ensures.value
    c.requires.low c.index-entries-index.is in
    let other : character_at all c.args.index ≢ c.args.character = λ e. c.if-value.false (
    c.value.ensures.number ∙ c.character.ensures ∙ ap (λ (q : Pair). q.1) read ∙ e ∙ sym c.value-2.ensures.number) in
    held_otherwise all
    (c.args.bytes.now, c.args.character) c.requires.apart c.args.index c.requires.low c.requires.same other
