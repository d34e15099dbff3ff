use Rattle.std.proofs.Common.{arith, length-drop}
use Rattle.std.proofs.lemmas.List.{take_rest}
use Rattle.cv_transcode.proofs.Joined.{joined}
use Rattle.cv_transcode.proofs.Parts.{converted_within}
use Rattle.cv_transcode.proofs.room_end.fill_room.Goals as goal

pub overflow_add-used : goal.overflow_add-used
overflow_add-used g c =
    let more = converted_within _ _ _ _ _ _ _ (rw take_rest at c.convert_fitting-run.ensures.run) in
    omega (arith, c.loop.invariant.within, more, length-drop c.loop.used c.args.text.now)

pub loop-smaller : goal.loop-smaller
loop-smaller g c =
    let more = converted_within _ _ _ _ _ _ _ (rw take_rest at c.convert_fitting-run.ensures.run) in
    omega (arith, c.loop.invariant.within, more, length-drop c.loop.used c.args.text.now, c.if-run-eq0.false)

pub loop-preserved : goal.loop-preserved
loop-preserved g c =
    let i = c.loop.invariant in
    let more = converted_within _ _ _ _ _ _ _ (rw take_rest at c.convert_fitting-run.ensures.run) in
    let both = joined _ _ c.args.text.now c.args.out.now c.args.at _ c.convert_fitting-run.result _ _ i.converted
    (rw take_rest at c.convert_fitting-run.ensures.run) in
    record {
      within = omega (arith, i.within, more, length-drop c.loop.used c.args.text.now);
      room = omega (arith, both.put.fits);
      none = λ e. absurd (omega (arith, c.if-run-eq0.false, e));
      converted = both;
    }

pub returns-clause-run : goal.returns-clause-run
returns-clause-run g c = joined _ _ c.args.text.now c.args.out.now c.args.at _ c.convert_fitting-run.result _ _
    c.loop.invariant.converted (rw take_rest at c.convert_fitting-run.ensures.run)
