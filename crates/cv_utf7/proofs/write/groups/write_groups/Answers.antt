use Rattle.std.proofs.Common.{arith, ap, sym, refl, []}
use Rattle.cv_base.specs.declared.state.WriteState.TheVariants as write
use Rattle.cv_utf7.specs.PendingBits.{pending_of}
use Rattle.cv_utf7.proofs.PendingBits.{none_pending}
use Rattle.cv_utf7.proofs.WriteSteps.{writes_to, writes_more}
use Rattle.cv_utf7.proofs.write.groups.write_groups.Goals as goal

pub returns-then-group-lt-SIX-clause-more : goal.returns-then-group-lt-SIX-clause-more
returns-then-group-lt-SIX-clause-more c = writes_more c.loop-group.invariant.wrote c.write_group-reached.ensures.more

pub loop-group-preserved : goal.loop-group-preserved
loop-group-preserved c =
    let p = c.write_group-reached.ensures.more in
    record {
      wrote = writes_more c.loop-group.invariant.wrote (writes_to p (write.Shifted (pending_of []))
          (c.write_group-reached.ensures.six (omega (arith, c.in-Some.ensures.few))));
      room = omega (arith, c.write_group-reached.ensures.few, p.size, p.within, p.counts);
      on = omega arith;
      none = λ e. absurd (omega arith);
    }

pub returns-in-None-clause-more : goal.returns-in-None-clause-more
returns-in-None-clause-more c = writes_to c.loop-group.invariant.wrote (write.Shifted _)
    (ap write.Shifted (sym (none_pending _ refl)))
