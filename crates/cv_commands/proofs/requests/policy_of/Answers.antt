use Rattle.std.proofs.lemmas.Bool.{both_ways}
use Rattle.std.proofs.Common.{sym, ◌∙◌}
use Rattle.cv_commands.proofs.Commands.{policy_default, policy_none, policy_strict, policy_other}
use Rattle.cv_commands.proofs.requests.policy_of.Goals as goal

pub returns-then-is_blank : goal.returns-then-is_blank
returns-then-is_blank c = policy_default _ (c.is_blank.ensures.0 c.if-is_blank.true)

pub returns-in_default : goal.returns-in_default
returns-in_default c =
    policy_none _ (λ e. both_ways _ c.if-is_blank.false (c.is_blank.ensures.1 e)) c.in_default.ensures

pub returns-then-is : goal.returns-then-is
returns-then-is c = policy_strict _ _ c.in-Some.ensures (sym c.is.ensures ∙ c.if-is.true)

pub returns-else-is : goal.returns-else-is
returns-else-is c = policy_other _ _ c.in-Some.ensures (sym c.is.ensures ∙ c.if-is.false)
