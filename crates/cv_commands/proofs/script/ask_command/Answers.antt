use Rattle.std.proofs.Common.{sym, ◌∙◌}
use Rattle.cv_commands.proofs.Sent.{same, sends_none}
use Rattle.cv_commands.proofs.CommandLines.{asked_put, asked_part, asked_drop, asked_open, asked_conv, asked_reset}
use Rattle.cv_commands.proofs.CommandLines.{asked_close, asked_bye, asked_raw, asked_nothing}
use Rattle.cv_commands.proofs.script.ask_command.Goals as goal

pub returns-then-is : goal.returns-then-is
returns-then-is c = same _ _ _ _ _ _ _ (asked_put _ _ _ (sym c.is.ensures ∙ c.if-is.true)) c.ask_put.ensures

pub returns-then-is-2 : goal.returns-then-is-2
returns-then-is-2 c = same _ _ _ _ _ _ _
    (asked_part _ _ _ (sym c.is.ensures ∙ c.if-is.false) (sym c.is-else-is.ensures ∙ c.if-is-2.true)) c.ask_part.ensures

pub returns-then-is-3 : goal.returns-then-is-3
returns-then-is-3 c = same _ _ _ _ _ _ _ (asked_drop _ _ _ (sym c.is.ensures ∙ c.if-is.false)
    (sym c.is-else-is.ensures ∙ c.if-is-2.false) (sym c.is-else-is-2.ensures ∙ c.if-is-3.true)) c.ask_drop.ensures

pub returns-then-is-4 : goal.returns-then-is-4
returns-then-is-4 c =
    same _ _ _ _ _ _ _ (asked_open _ _ _ (sym c.is.ensures ∙ c.if-is.false) (sym c.is-else-is.ensures ∙ c.if-is-2.false)
    (sym c.is-else-is-2.ensures ∙ c.if-is-3.false) (sym c.is-else-is-3.ensures ∙ c.if-is-4.true)) c.ask_open.ensures

pub returns-then-is-5 : goal.returns-then-is-5
returns-then-is-5 c = same _ _ _ _ _ _ _ (asked_conv _ _ _ (sym c.is.ensures ∙ c.if-is.false)
    (sym c.is-else-is.ensures ∙ c.if-is-2.false) (sym c.is-else-is-2.ensures ∙ c.if-is-3.false)
    (sym c.is-else-is-3.ensures ∙ c.if-is-4.false) (sym c.is-else-is-4.ensures ∙ c.if-is-5.true)) c.ask_conv.ensures

pub returns-then-is-6 : goal.returns-then-is-6
returns-then-is-6 c = same _ _ _ _ _ _ _ (asked_reset _ _ _ (sym c.is.ensures ∙ c.if-is.false) (sym c.is-else-is.ensures
    ∙ c.if-is-2.false) (sym c.is-else-is-2.ensures ∙ c.if-is-3.false) (sym c.is-else-is-3.ensures ∙ c.if-is-4.false)
    (sym c.is-else-is-4.ensures ∙ c.if-is-5.false) (sym c.is-else-is-5.ensures ∙ c.if-is-6.true)) c.ask_reset.ensures

pub returns-then-is-7 : goal.returns-then-is-7
returns-then-is-7 c = same _ _ _ _ _ _ _ (asked_close _ _ _ (sym c.is.ensures ∙ c.if-is.false)
    (sym c.is-else-is.ensures ∙ c.if-is-2.false) (sym c.is-else-is-2.ensures ∙ c.if-is-3.false)
    (sym c.is-else-is-3.ensures ∙ c.if-is-4.false) (sym c.is-else-is-4.ensures ∙ c.if-is-5.false)
    (sym c.is-else-is-5.ensures ∙ c.if-is-6.false) (sym c.is-else-is-6.ensures ∙ c.if-is-7.true)) c.ask_close.ensures

pub returns-then-is-8 : goal.returns-then-is-8
returns-then-is-8 c = same _ _ _ _ _ _ _ (asked_bye _ _ _ (sym c.is.ensures ∙ c.if-is.false) (sym c.is-else-is.ensures
    ∙ c.if-is-2.false) (sym c.is-else-is-2.ensures ∙ c.if-is-3.false) (sym c.is-else-is-3.ensures ∙ c.if-is-4.false)
    (sym c.is-else-is-4.ensures ∙ c.if-is-5.false) (sym c.is-else-is-5.ensures ∙ c.if-is-6.false)
    (sym c.is-else-is-6.ensures ∙ c.if-is-7.false) (sym c.is-else-is-7.ensures ∙ c.if-is-8.true)) c.ask_bye.ensures

pub returns-then-is-9 : goal.returns-then-is-9
returns-then-is-9 c = same _ _ _ _ _ _ _ (asked_raw _ _ _ (sym c.is.ensures ∙ c.if-is.false)
    (sym c.is-else-is.ensures ∙ c.if-is-2.false) (sym c.is-else-is-2.ensures ∙ c.if-is-3.false)
    (sym c.is-else-is-3.ensures ∙ c.if-is-4.false) (sym c.is-else-is-4.ensures ∙ c.if-is-5.false)
    (sym c.is-else-is-5.ensures ∙ c.if-is-6.false) (sym c.is-else-is-6.ensures ∙ c.if-is-7.false)
    (sym c.is-else-is-7.ensures ∙ c.if-is-8.false) (sym c.is-else-is-8.ensures ∙ c.if-is-9.true)) c.ask_raw.ensures

pub returns-else-is-9 : goal.returns-else-is-9
returns-else-is-9 c = sends_none _ _ _ (asked_nothing _ _ _ (sym c.is.ensures ∙ c.if-is.false)
    (sym c.is-else-is.ensures ∙ c.if-is-2.false) (sym c.is-else-is-2.ensures ∙ c.if-is-3.false)
    (sym c.is-else-is-3.ensures ∙ c.if-is-4.false) (sym c.is-else-is-4.ensures ∙ c.if-is-5.false)
    (sym c.is-else-is-5.ensures ∙ c.if-is-6.false) (sym c.is-else-is-6.ensures ∙ c.if-is-7.false)
    (sym c.is-else-is-7.ensures ∙ c.if-is-8.false) (sym c.is-else-is-8.ensures ∙ c.if-is-9.false))
