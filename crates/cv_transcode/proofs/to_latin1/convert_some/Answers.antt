use Rattle.std.proofs.Common.{arith, length-drop}
use Rattle.std.proofs.lemmas.List.{take_rest}
use Rattle.cv_transcode.proofs.Joined.{joined}
use Rattle.cv_transcode.proofs.Parts.{converted_within}
use Rattle.cv_transcode.proofs.to_latin1.convert_some.Goals as goal

pub slice_bounds-rest-count : goal.slice_bounds-rest-count
slice_bounds-rest-count c = converted_within _ _ _ _ _ _ _ c.convert_windows-whole.ensures

pub slice_bounds-rest-start : goal.slice_bounds-rest-start
slice_bounds-rest-start c = converted_within _ _ _ _ _ _ _ c.convert_windows-whole.ensures

pub overflow_add-result : goal.overflow_add-result
overflow_add-result c =
    let few = converted_within _ _ _ _ _ _ _ c.convert_windows-whole.ensures in
    let more = converted_within _ _ _ _ _ _ _ (rw take_rest at c.convert_last-last.ensures) in
    omega (arith, few, more, length-drop c.convert_windows-whole.result.used c.args.text.now)

pub returns : goal.returns
returns c = joined _ _ c.args.text.now c.args.out.now c.args.at c.convert_windows-whole.result
    c.convert_last-last.result _ _ c.convert_windows-whole.ensures
    (rw take_rest at c.convert_last-last.ensures)
