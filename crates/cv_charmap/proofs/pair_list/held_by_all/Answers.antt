use Rattle.std.proofs.Common.{◌≡◌, ◌≢◌, ◌∙◌, length, ap, sym, arith}
use Rattle.cv_byte_trie.specs.Entries.{bytes_at}
use Rattle.cv_charmap.specs.Entries.{Pair}
use Rattle.cv_charmap.proofs.PairLists.{entry_read, same_whole, shorter, begins_one, too_many}
use Rattle.cv_charmap.proofs.Meeting.{continues}
use Rattle.cv_charmap.proofs.pair_list.held_by_all.Goals as goal

pub held-requires-clause-same : goal.held-requires-clause-same
held-requires-clause-same c =
    let all = c.args.trie.now.entries in
    let found = c.in-Entry.ensures in
    let read = entry_read all c.entries.result.now c.in-Entry.index c.index-entries-index.result c.entries.ensures.value
    found.0 c.index-entries-index.is in
    let size : length (bytes_at all c.in-Entry.index) ≡ length c.args.bytes.now =
    ap (λ (q : Pair). length q.0) (sym read) ∙ ap length (sym c.bytes.ensures.value) ∙ c.if-bytes.true in
    same_whole (bytes_at all c.in-Entry.index) c.args.bytes.now found.1 size

pub returns-else-bytes : goal.returns-else-bytes
returns-else-bytes c =
    let all = c.args.trie.now.entries in
    let found = c.in-Entry.ensures in
    let read = entry_read all c.entries.result.now c.in-Entry.index c.index-entries-index.result c.entries.ensures.value
    found.0 c.index-entries-index.is in
    let other : length (bytes_at all c.in-Entry.index) ≢ length c.args.bytes.now = λ e.
    c.if-bytes.false (ap length c.bytes.ensures.value ∙ ap (λ (q : Pair). length q.0) read ∙ e) in
    continues all (c.args.bytes.now, c.args.character) c.requires.apart c.in-Entry.index found.0 found.1
    (shorter (bytes_at all c.in-Entry.index) c.args.bytes.now found.1 other)

pub returns-in-Inside : goal.returns-in-Inside
returns-in-Inside c =
    let found = c.in-Inside.ensures in
    begins_one c.args.trie.now.entries (c.args.bytes.now, c.args.character) c.requires.apart found.0 found.1

pub returns-in-Nothing : goal.returns-in-Nothing
returns-in-Nothing c = too_many c.args.trie.now.entries (c.args.bytes.now, c.args.character) c.in-Nothing.ensures
    (omega (arith, c.requires.full))
