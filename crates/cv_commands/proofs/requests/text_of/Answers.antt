use Rattle.std.proofs.Common.{refl, sym, ◌∙◌}
use Rattle.std.proofs.lemmas.List.{take_rest}
use Rattle.cv_commands.proofs.Commands.{text_fits, text_long, other_long, empty_long}
use Rattle.cv_commands.proofs.Numbers.{one_front}
use Rattle.cv_commands.proofs.requests.text_of.Goals as goal

pub returns-in_default : goal.returns-in_default
returns-in_default c = empty_long c.args.rest.now c.in_default.len_below

pub returns-then-not-is_space : goal.returns-then-not-is_space
returns-then-not-is_space c = other_long c.args.rest.now _ _ (one_front c.args.rest.now _ _ c.in-len1-up.len_at_least
    refl (take_rest c.args.rest.now 1)) (sym c.is_space.ensures ∙ c.if-not-is_space.true)

pub returns-then-text-gt-MOST_BODY : goal.returns-then-text-gt-MOST_BODY
returns-then-text-gt-MOST_BODY c =
    text_long c.args.rest.now _ _ (one_front c.args.rest.now _ _ c.in-len1-up.len_at_least refl
    (take_rest c.args.rest.now 1)) (sym c.is_space.ensures ∙ c.if-not-is_space.false) c.if-text-gt-MOST_BODY.true

pub returns-in-Ok : goal.returns-in-Ok
returns-in-Ok c = text_fits c.args.rest.now _ _ _ (one_front c.args.rest.now _ _ c.in-len1-up.len_at_least refl
    (take_rest c.args.rest.now 1)) (sym c.is_space.ensures ∙ c.if-not-is_space.false)
    c.if-text-gt-MOST_BODY.false c.in-Ok.ensures
