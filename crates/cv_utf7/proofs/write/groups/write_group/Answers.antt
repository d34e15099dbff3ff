use Rattle.std.proofs.Common.{arith, ap, sym, refl, ◌∙◌}
use Rattle.std.proofs.lemmas.List.{get_or_read}
use Rattle.cv_base.specs.declared.state.WriteState.TheVariants as write
use Rattle.cv_utf7.proofs.Groups.{writes_six, writes_closed}
use Rattle.cv_utf7.proofs.PendingBits.{none_pending}
use Rattle.cv_utf7.proofs.SetMembers.{written_lt}
use Rattle.cv_utf7.proofs.WriteSteps.{writes_to}
use Rattle.cv_utf7.proofs.write.groups.write_group.Goals as goal

pub returns-then-group-eq-SIX-clause-more : goal.returns-then-group-eq-SIX-clause-more
returns-then-group-eq-SIX-clause-more c =
    writes_to (writes_six c.args.characters.now c.args.n c.args.at c.args.group c.args.out.now c.sixteen_digits.result
    c.requires.group c.if-group-eq-SIX.true c.sixteen_digits.ensures (omega arith)) (write.Shifted _)
    (ap write.Shifted (sym (none_pending _ refl)))

pub returns-then-group-eq-SIX-clause-six : goal.returns-then-group-eq-SIX-clause-six
returns-then-group-eq-SIX-clause-six c e = ap write.Shifted (none_pending _ refl)

pub overflow_cast-out : goal.overflow_cast-out
overflow_cast-out c =
    let g = c.requires.group in
    let is = c.value.ensures.number ∙ get_or_read c.args.characters.now _ _ (omega (arith, g.left, g.few))
    c.index-characters-after.is 0 in
    omega (arith, is, written_lt _ (g.ends (omega (arith, g.few))))

pub returns-clause-more : goal.returns-clause-more
returns-clause-more c =
    let g = c.requires.group in
    writes_closed c.args.characters.now c.args.n c.args.at _ c.value.result c.args.group c.args.out.now
    c.sixteen_digits.result g (omega (arith, g.few)) c.sixteen_digits.ensures refl
    (c.value.ensures.number ∙ get_or_read c.args.characters.now _ _ (omega (arith, g.left, g.few))
    c.index-characters-after.is 0) (omega arith)
