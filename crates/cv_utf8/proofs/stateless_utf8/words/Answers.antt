use Rattle.std.proofs.Common.{arith, get_or}
use Rattle.cv_utf8.proofs.Utf8Lanes.{words_at, word_begins}
use Rattle.cv_utf8.proofs.stateless_utf8.words.Goals as goal

pub returns : goal.returns
returns c k h =
    rw (words_at 16 c.args.values k (omega arith) h) (word_begins (get_or c.args.values k 0) (c.requires k h))
