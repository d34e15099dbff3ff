use Rattle.std.proofs.Common.{arith, length-drop}
use Rattle.std.proofs.lemmas.List.{take_rest}
use Rattle.cv_transcode.proofs.Joined.{joined}
use Rattle.cv_transcode.proofs.Parts.{converted_within}
use Rattle.cv_transcode.proofs.mixed.convert_to_end.Goals as goal

pub slice_bounds-fill_room-count : goal.slice_bounds-fill_room-count
slice_bounds-fill_room-count g c = converted_within _ _ _ _ _ _ _ c.convert_parts-run.ensures.run

pub slice_bounds-fill_room-start : goal.slice_bounds-fill_room-start
slice_bounds-fill_room-start g c = converted_within _ _ _ _ _ _ _ c.convert_parts-run.ensures.run

pub overflow_add-result : goal.overflow_add-result
overflow_add-result g c =
    let few = converted_within _ _ _ _ _ _ _ c.convert_parts-run.ensures.run in
    let more = converted_within _ _ _ _ _ _ _ (rw take_rest at c.fill_room-end.ensures.run) in
    omega (arith, few, more, length-drop c.convert_parts-run.result.used c.args.text.now)

pub returns-clause-run : goal.returns-clause-run
returns-clause-run g c = joined _ _ c.args.text.now c.args.out.now c.args.at c.convert_parts-run.result
    c.fill_room-end.result _ _ c.convert_parts-run.ensures.run (rw take_rest at c.fill_room-end.ensures.run)
