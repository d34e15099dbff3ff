use Rattle.std.proofs.Common.{arith, sym, subst}
use Rattle.cv_utf7.specs.Private.WriteSteps.{written_to, WritesOn}
use Rattle.cv_base.specs.declared.state.WriteState.TheVariants as write
use Rattle.cv_base.specs.declared.state.Bits.{Bits}
use Rattle.cv_utf7.proofs.PendingBits.{none_pending}
use Rattle.cv_utf7.proofs.write.sequences.continue_at_once.Goals as goal

pub returns-then-may_be_group : goal.returns-then-may_be_group
returns-then-may_be_group c = subst (λ (p : Bits). WritesOn c.args.characters.now
    (written_to (write.Shifted p) c.args.n c.args.at) c.args.out.now c.continue_groups.result c.continue_groups.new.out)
    (sym (none_pending c.args.pending (omega arith))) c.continue_groups.ensures
