use Rattle.std.proofs.Common.{arith}
use Rattle.cv_utf7.proofs.ReadRuns.{put_more}
use Rattle.cv_utf7.proofs.read.runs.put_many.Goals as goal

pub loop-i-preserved : goal.loop-i-preserved
loop-i-preserved c = put_more c.args.n c.loop-i.i c.known.result c.args.buffer.now c.loop-i.buffer c.args.bytes
    (omega arith) (omega arith) c.known.ensures c.loop-i.invariant
