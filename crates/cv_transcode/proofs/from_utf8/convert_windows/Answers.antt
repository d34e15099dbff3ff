use Rattle.std.proofs.Common.{arith}
use Rattle.cv_transcode.proofs.Joined.{units_on, run_on}
use Rattle.cv_transcode.proofs.from_utf8.convert_windows.Goals as goal

pub loop-used-preserved-else-not-goes_on : goal.loop-used-preserved-else-not-goes_on
loop-used-preserved-else-not-goes_on g c =
    let i = c.loop-used.invariant in
    let after = c.convert_after-supplementary.ensures in
    let window = units_on _ c.args.text.now c.args.out.now c.args.at c.loop-used.used c.loop-used.end _ _ _
    c.next_units-units.result i.from i.converted c.next_units-units.ensures.read c.write_units-end.ensures.put in
    record {
      within = omega (arith, after.within, c.next_units-units.ensures.within);
      room = after.room;
      from = omega (arith, i.from);
      other = omega arith;
      converted = run_on _ c.args.text.now c.args.out.now c.args.at _ _ _ _ _ (omega (arith, i.from)) window
          after.converted;
    }

pub loop-used-preserved-then-not-are_ascii : goal.loop-used-preserved-then-not-are_ascii
loop-used-preserved-then-not-are_ascii g c =
    let i = c.loop-used.invariant in
    record {
      within = c.next_units-units.ensures.within;
      room = c.write_units-end.ensures.within;
      from = omega (arith, i.from);
      other = omega arith;
      converted = units_on _ c.args.text.now c.args.out.now c.args.at c.loop-used.used c.loop-used.end _ _ _
          c.next_units-units.result i.from i.converted c.next_units-units.ensures.read c.write_units-end.ensures.put;
    }

pub loop-used-preserved : goal.loop-used-preserved
loop-used-preserved g c =
    let i = c.loop-used.invariant in
    record {
      within = c.next_units-units.ensures.within;
      room = c.write_units-end.ensures.within;
      from = omega (arith, i.from);
      other = omega (arith, i.other);
      converted = units_on _ c.args.text.now c.args.out.now c.args.at c.loop-used.used c.loop-used.end _ _ _
          c.next_units-units.result i.from i.converted c.next_units-units.ensures.read c.write_units-end.ensures.put;
    }

pub returns : goal.returns
returns g c =
    let i = c.loop-used.invariant in
    elim c.loop-used-test.branch [
      | goal.then-loop-used-test+then-text-used-ge-WINDOW+else-out-end-ge-ROOM w ↦
          rw (w.out-is, w.used-is, w.end-is) i.converted
      | goal.then-loop-used-test+else-text-used-ge-WINDOW w ↦ rw (w.out-is, w.used-is, w.end-is) i.converted
      | goal.else-loop-used-test w ↦ rw (w.out-is, w.used-is, w.end-is) i.converted
      | goal.then-loop-used-test+then-text-used-ge-WINDOW+then-out-end-ge-ROOM+then-units-lt-LANES+then-not-goes_on w ↦
          let window = units_on _ c.args.text.now c.args.out.now c.args.at c.loop-used.used c.loop-used.end _ _ _
          w.next_units-units.result i.from i.converted w.next_units-units.ensures.read w.write_units-end.ensures.put in
          rw (w.out-is, w.used-is, w.end-is) (run_on _ c.args.text.now c.args.out.now c.args.at _ _ _ _ _
          (omega (arith, i.from)) window w.convert_after-supplementary.ensures.converted)
    ]
