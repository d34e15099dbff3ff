use Rattle.std.proofs.Common.{arith}
use Rattle.cv_transcode.proofs.ToLatin1.{next_on}
use Rattle.cv_transcode.proofs.to_latin1.convert_windows.Goals as goal

pub loop-ascii-preserved : goal.loop-ascii-preserved
loop-ascii-preserved c =
    let i = c.loop-ascii.invariant in
    let next = c.convert_next-run in
    record {
      within = next.ensures.within;
      room = next.ensures.room;
      from = omega (arith, i.from);
      converted = next_on _ c.args.text.now c.args.out.now c.args.at c.loop-ascii.used c.loop-ascii.end next.result _ _
          i.from i.converted next.ensures.run;
    }

pub returns : goal.returns
returns c =
    let i = c.loop-ascii.invariant in
    elim c.loop-ascii-test.branch [
      | goal.then-loop-ascii-test+then-text-used-ge-WINDOW+else-out-end-ge-ROOM w ↦
          rw (w.out-is, w.used-is, w.end-is) i.converted
      | goal.then-loop-ascii-test+else-text-used-ge-WINDOW w ↦ rw (w.out-is, w.used-is, w.end-is) i.converted
      | goal.else-loop-ascii-test w ↦ rw (w.out-is, w.used-is, w.end-is) i.converted
      | goal.then-loop-ascii-test+then-text-used-ge-WINDOW+then-out-end-ge-ROOM+then-run-eq0 w ↦
          let next = w.convert_next-run in
          rw (w.out-is, w.used-is, w.end-is) (next_on _ c.args.text.now c.args.out.now c.args.at c.loop-ascii.used
          c.loop-ascii.end next.result _ _ i.from i.converted next.ensures.run)
    ]
