use Rattle.std.proofs.Common.{arith}
use Rattle.cv_utf8.proofs.Utf8ShortFront.{short_more}
use Rattle.cv_utf8.proofs.read.well_formed.short_steps.Goals as goal

pub loop-n-preserved : goal.loop-n-preserved
loop-n-preserved c =
    let i = c.loop-n.invariant in
    record {
      within = omega arith;
      short = short_more c.args.text.now c.loop-n.n c.loop-n.n 16 (omega arith) i.short
          (c.are_short.ensures c.if-are_short.true);
    }
