use Rattle.std.proofs.Common.{drop}
use Rattle.cv_trie.proofs.Following.{found_long}
use Rattle.cv_trie.proofs.blocks.followed_at.Goals as goal

pub returns : goal.returns
returns c = λ _. rw (c.value.ensures.number, c.character.ensures) (found_long c.args.trie.now.entries _
    c.entries-entries.ensures.value c.entries-entries.ensures.entries (drop c.args.used c.args.input.now) _ _
    c.index-entries-followed.result c.follow-followed.ensures.found c.if-followed-ge-NONE.false
    c.follow-followed.ensures.within c.index-entries-followed.is)
