use Rattle.cv_charmap.proofs.PairLists.{enters_at, begins_one}
use Rattle.cv_charmap.proofs.Meeting.{continues}
use Rattle.cv_charmap.proofs.pair_list.enter_into.Goals as goal

pub returns-in-Entered-clause-enters : goal.returns-in-Entered-clause-enters
returns-in-Entered-clause-enters c =
    let adds = rw c.in-Entered.is at c.in-Ok.ensures.ok in
    enters_at c.args.trie.now.entries c.add.new.self.entries
    (c.args.bytes.now, c.args.character) c.len-index.result adds c.requires.room c.len-index.ensures.value

pub returns-in-Continues-clause-enters : goal.returns-in-Continues-clause-enters
returns-in-Continues-clause-enters c =
    let adds = rw c.in-Continues.is at c.in-Ok.ensures.ok in
    continues c.args.trie.now.entries
    (c.args.bytes.now, c.args.character) c.requires.apart c.in-Continues.field-0 adds.0 adds.1 adds.2

pub returns-in-Begins-clause-enters : goal.returns-in-Begins-clause-enters
returns-in-Begins-clause-enters c =
    let adds = rw c.in-Begins.is at c.in-Ok.ensures.ok in
    begins_one c.args.trie.now.entries (c.args.bytes.now, c.args.character) c.requires.apart adds.0.0 adds.0.1
