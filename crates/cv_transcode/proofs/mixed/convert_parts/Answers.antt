use Rattle.std.proofs.Common.{arith, length-drop}
use Rattle.std.proofs.lemmas.List.{take_rest}
use Rattle.cv_transcode.proofs.Joined.{joined}
use Rattle.cv_transcode.proofs.Parts.{converted_within}
use Rattle.cv_transcode.proofs.mixed.convert_parts.Goals as goal

pub overflow_add-used : goal.overflow_add-used
overflow_add-used g c =
    let more = converted_within _ _ _ _ _ _ _ (rw take_rest at c.convert_some-on.ensures.run) in
    omega (arith, c.loop-on.invariant.within, more, length-drop c.loop-on.used c.args.text.now)

pub loop-on-smaller : goal.loop-on-smaller
loop-on-smaller g c =
    let more = converted_within _ _ _ _ _ _ _ (rw take_rest at c.convert_some-on.ensures.run) in
    omega (
      arith,
      c.loop-on.invariant.within,
      more,
      length-drop c.loop-on.used c.args.text.now,
      c.convert_some-on.ensures.more c.if-not-on.false,
    )

pub loop-on-preserved : goal.loop-on-preserved
loop-on-preserved g c =
    let i = c.loop-on.invariant in
    let more = converted_within _ _ _ _ _ _ _ (rw take_rest at c.convert_some-on.ensures.run) in
    let both = joined _ _ c.args.text.now c.args.out.now c.args.at _ c.convert_some-on.result.0 _ _ i.converted
    (rw take_rest at c.convert_some-on.ensures.run) in
    record {
      within = omega (arith, i.within, more, length-drop c.loop-on.used c.args.text.now);
      room = omega (arith, both.put.fits);
      none = λ e. absurd (omega (arith, c.convert_some-on.ensures.more c.if-not-on.false, e));
      converted = both;
    }

pub returns-clause-run : goal.returns-clause-run
returns-clause-run g c = joined _ _ c.args.text.now c.args.out.now c.args.at _ c.convert_some-on.result.0 _ _
    c.loop-on.invariant.converted (rw take_rest at c.convert_some-on.ensures.run)
