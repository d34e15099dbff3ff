use Rattle.std.proofs.Common.{◌+◌, ap, ◌∙◌}
use Rattle.cv_caller.specs.Keyed.{Keyed, held_by}
use Rattle.cv_world.specs.Budgets.{held_in}
use Rattle.cv_world.proofs.Counting.{entered}
use Rattle.cv_world.proofs.tables.insert.Goals as goal

pub returns-clause-counted : goal.returns-clause-counted
returns-clause-counted c = entered c.args.map.now c.insert.new.self c.args.caller c.in_ok-kept.kept
    c.in_ok-insert.ensures.was_ordered c.requires c.in_ok-insert.ensures.entries
    ∙ ap (λ (k : Keyed). held_in c.args.map.now + held_by k) c.in_ok-kept.ensures
