use Rattle.std.proofs.Common.{◌≡◌, ◌+◌, ◌-◌, length, take, drop, ap, ◌∙◌, arith, rules}
use Rattle.std.proofs.lemmas.List.{length-take, length-drop}
use Rattle.cv_world.proofs.TwoStages.{one_stage}
use Rattle.cv_world.proofs.stages.convert_stage.Goals as goal

pub returns-clause-appends : goal.returns-clause-appends
returns-clause-appends c =
    let held = c.deref_mut.result.now in
    let at = c.output.inside.used in
    let end = at + c.args.room in
    let size : length (take (end - at) (drop at held)) ≡ c.args.room =
    grind (arith, c.deref_mut.ensures.len, c.in_ok-make_long.ensures.ok, length-take, length-drop) in
    one_stage c.args.conversion.now c.convert-outcome.new.self c.args.input.now
    _ c.args.output.now c.convert-outcome.new.out held _ _ _ at c.args.room (end - c.convert-outcome.result.room_left)
    c.convert-outcome.result c.convert-outcome.ensures.converts (search rules) size c.convert-outcome.ensures.size
    (omega (arith, c.deref_mut.ensures.len, c.output.invariant, c.make_long.ensures.len))
    (omega (arith, c.in_ok-make_long.ensures.ok))
    (ap (take at) c.deref_mut.ensures.value ∙ c.make_long.ensures.same ∙ c.output.view_is)
    (omega (arith, c.convert-outcome.ensures.few, size))
