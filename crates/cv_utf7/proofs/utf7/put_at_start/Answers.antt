use Rattle.std.proofs.Common.{sym, ◌∙◌, subst, List, ℕ, Some}
use Rattle.cv_base.specs.Places.{PutsAt}
use Rattle.cv_base.specs.declared.state.WriteState.{WriteState}
use Rattle.cv_utf7.proofs.Writes.{start_behind}
use Rattle.cv_utf7.proofs.utf7.put_at_start.Goals as goal

pub returns : goal.returns
returns c =
    let e = start_behind c.args.c _ (sym (rw c.value-value.ensures.number at c.if-stands.ensures))
    (λ h. c.if-value.false (c.value-value.ensures.number ∙ h)) c.first.ensures.same in
    subst (λ (w : List ℕ × WriteState). PutsAt (Some w) c.args.out.now c.args.at c.put_first.result c.put_first.new.out)
    (sym e) c.put_first.ensures
