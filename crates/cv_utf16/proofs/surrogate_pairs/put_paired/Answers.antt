use Rattle.std.proofs.Common.{arith, rules}
use Rattle.cv_utf16.proofs.SurrogatePairs.{put_more}
use Rattle.cv_utf16.proofs.surrogate_pairs.put_paired.Goals as goal

pub loop-k-preserved : goal.loop-k-preserved
loop-k-preserved c =
    let i = c.loop-k.invariant in
    let p =
    put_more c.args.numbers.now c.args.buffer.now c.loop-k.buffer c.args.n c.loop-k.k c.loop-k.more c.is_low-low.result
    c.known.result (omega arith) c.is_low-low.ensures (search rules) i.few i.counts i.stand (omega arith) in
    record { few = p.few; counts = p.counts; stand = p.stand; size = search rules }
