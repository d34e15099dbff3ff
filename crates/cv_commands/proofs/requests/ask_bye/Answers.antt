use Rattle.std.proofs.lemmas.Bool.{both_ways}
use Rattle.std.proofs.Common.{ap}
use Rattle.cv_frame.specs.Ops.{op_bye}
use Rattle.cv_commands.specs.Commands.{with_op}
use Rattle.cv_commands.proofs.Sent.{same, sends_none}
use Rattle.cv_commands.proofs.Commands.{bye_is, bye_none}
use Rattle.cv_commands.proofs.requests.ask_bye.Goals as goal

pub returns-then-not-is_blank : goal.returns-then-not-is_blank
returns-then-not-is_blank c = sends_none _ _ _
    (ap (with_op op_bye) (bye_none _ (λ e. both_ways _ c.if-not-is_blank.true (c.is_blank.ensures.1 e))))

pub returns : goal.returns
returns c =
    same _ _ _ _ _ _ _ (ap (with_op op_bye) (bye_is _ (c.is_blank.ensures.0 c.if-not-is_blank.false))) c.send.ensures
