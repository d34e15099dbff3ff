use Rattle.std.proofs.Common.{sym, ◌∙◌}
use Rattle.cv_caller.proofs.Emptiness.{bare, not_bare}
use Rattle.cv_caller.proofs.store.is_bare.Goals as goal

pub returns-then-has_charmaps : goal.returns-then-has_charmaps
returns-then-has_charmaps c = (
  λ e. absurd (let h = e in cc),
  λ e. absurd (not_bare c.args.store.now (sym c.if-has_charmaps.true ∙ c.has_charmaps.ensures.any) e),
)

pub returns : goal.returns
returns c = bare c.args.store.now c.part_len.result
    (sym c.if-has_charmaps.false ∙ c.has_charmaps.ensures.any) c.has_charmaps.ensures.size c.part_len.ensures
