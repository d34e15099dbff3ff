use Rattle.std.proofs.Common.{arith, length-drop}
use Rattle.std.proofs.lemmas.List.{take_rest}
use Rattle.cv_transcode.proofs.Joined.{joined}
use Rattle.cv_transcode.proofs.Parts.{converted_within}
use Rattle.cv_transcode.proofs.mixed.convert_some.Goals as goal

pub slice_bounds-convert_ascii-count : goal.slice_bounds-convert_ascii-count
slice_bounds-convert_ascii-count g c = converted_within _ _ _ _ _ _ _ c.convert_both-on.ensures.run

pub slice_bounds-convert_ascii-start : goal.slice_bounds-convert_ascii-start
slice_bounds-convert_ascii-start g c = converted_within _ _ _ _ _ _ _ c.convert_both-on.ensures.run

pub overflow_add-run : goal.overflow_add-run
overflow_add-run g c =
    let few = converted_within _ _ _ _ _ _ _ c.convert_both-on.ensures.run in
    let more = converted_within _ _ _ _ _ _ _ (rw take_rest at c.convert_ascii-ascii.ensures.run) in
    omega (arith, few, more, length-drop c.convert_both-on.result.0.used c.args.text.now)

pub returns-clause-run : goal.returns-clause-run
returns-clause-run g c = joined _ _ c.args.text.now c.args.out.now c.args.at c.convert_both-on.result.0
    c.convert_ascii-ascii.result _ _ c.convert_both-on.ensures.run (rw take_rest at c.convert_ascii-ascii.ensures.run)
