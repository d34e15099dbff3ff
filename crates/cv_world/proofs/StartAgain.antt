-- After a BYE its caller has the table of one that never asked.
use Rattle.std.proofs.Common.{subst}
use Rattle.cv_world.specs.Actions.{Action}
use Rattle.cv_world.specs.Laws.{ByeStartsAgain}
use Rattle.cv_world.specs.Turn.{Acts}

-- After a BYE its caller has the table of one that never asked.
pub bye_starts_again : ByeStartsAgain
bye_starts_again table outcome turned =
    (subst (λ (x : Action). Acts table x outcome.next turned.answer) turned.asks turned.acts).0
