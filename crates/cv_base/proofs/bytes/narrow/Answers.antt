use Rattle.std.proofs.Common.{◌≡◌, ◌<◌, arith, get_or}
use Rattle.std.proofs.lemmas.List.{get_or_read}
use Rattle.cv_base.proofs.AllWritten.{below_written}
use Rattle.cv_base.proofs.NarrowSteps.{one_byte_more}
use Rattle.cv_base.proofs.bytes.narrow.Goals as goal

pub loop-k-preserved : goal.loop-k-preserved
loop-k-preserved c =
    let character = c.index-characters-k.result in
    let there : character ≡ get_or c.args.characters.now c.loop-k.k 0 =
    get_or_read c.args.characters.now c.loop-k.k character c.loop-k-test.true c.index-characters-k.is 0 in
    let below = c.are_below.ensures c.if-not-are_below.false c.loop-k.k c.loop-k-test.true in
    let low : character < c.args.limit = omega (arith, there, below) in
    rw c.value.ensures.number (one_byte_more c.args.limit c.args.characters.now c.args.out.now c.args.at c.loop-k.k
    0 c.loop-k.out c.loop-k.invariant c.loop-k-test.true (omega arith) character character 0 c.index-characters-k.is
    (below_written c.args.limit character low))
