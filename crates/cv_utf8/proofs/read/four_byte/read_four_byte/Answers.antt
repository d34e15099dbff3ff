use Rattle.std.proofs.Common.{lit≤}
use Rattle.cv_utf8.proofs.Utf8Long.{long_read}
use Rattle.cv_utf8.proofs.read.four_byte.read_four_byte.Goals as goal

pub returns-clause-read : goal.returns-clause-read
returns-clause-read c =
    let some = c.before_none-more.ensures in
    long_read 4 (lit≤ tt) c.args.input.now c.args.at c.args.buffer.now c.args.n c.before_none-more.result
    c.words_of.result c.numbers_of-numbers.result _ c.numbers_of-numbers.ensures.long
    c.words_of.ensures.words c.numbers_of-numbers.ensures.numbers some.many some.some c.requires.room
    c.put_characters.ensures.stand c.put_characters.ensures.size
