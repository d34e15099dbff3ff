use Rattle.std.proofs.Common.{arith, length-drop}
use Rattle.std.proofs.lemmas.List.{take_rest}
use Rattle.cv_transcode.proofs.Joined.{joined}
use Rattle.cv_transcode.proofs.Parts.{converted_within}
use Rattle.cv_transcode.proofs.mixed.convert_both.Goals as goal

pub slice_bounds-rest-count : goal.slice_bounds-rest-count
slice_bounds-rest-count g c = converted_within _ _ _ _ _ _ _ c.convert-plain.ensures.run

pub slice_bounds-rest-start : goal.slice_bounds-rest-start
slice_bounds-rest-start g c = converted_within _ _ _ _ _ _ _ c.convert-plain.ensures.run

pub overflow_add-run : goal.overflow_add-run
overflow_add-run g c =
    let few = converted_within _ _ _ _ _ _ _ c.convert-plain.ensures.run in
    let more = converted_within _ _ _ _ _ _ _ (rw take_rest at c.in-Some.ensures.run) in
    omega (arith, few, more, length-drop c.convert-plain.result.used c.args.text.now)

pub returns-clause-run : goal.returns-clause-run
returns-clause-run g c = joined _ _ c.args.text.now c.args.out.now c.args.at c.convert-plain.result
    c.in-Some.mixed _ _ c.convert-plain.ensures.run (rw take_rest at c.in-Some.ensures.run)
