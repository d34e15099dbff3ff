use Rattle.std.proofs.Common.{arith, length-drop}
use Rattle.std.proofs.lemmas.List.{take_rest}
use Rattle.cv_transcode.proofs.Joined.{joined}
use Rattle.cv_transcode.proofs.Parts.{converted_within}
use Rattle.cv_transcode.proofs.windows.convert.Goals as goal

pub slice_bounds-rest-count : goal.slice_bounds-rest-count
slice_bounds-rest-count g c = converted_within _ _ _ _ _ _ _ c.convert_whole-whole.ensures.run

pub slice_bounds-rest-start : goal.slice_bounds-rest-start
slice_bounds-rest-start g c = converted_within _ _ _ _ _ _ _ c.convert_whole-whole.ensures.run

pub overflow_add-result : goal.overflow_add-result
overflow_add-result g c =
    let few = converted_within _ _ _ _ _ _ _ c.convert_whole-whole.ensures.run in
    let more = converted_within _ _ _ _ _ _ _ (rw take_rest at c.convert_last-last.ensures.run) in
    omega (arith, few, more, length-drop c.convert_whole-whole.result.used c.args.text.now)

pub returns-clause-run : goal.returns-clause-run
returns-clause-run g c = joined _ _ c.args.text.now c.args.out.now c.args.at c.convert_whole-whole.result
    c.convert_last-last.result _ _ c.convert_whole-whole.ensures.run (rw take_rest at c.convert_last-last.ensures.run)
