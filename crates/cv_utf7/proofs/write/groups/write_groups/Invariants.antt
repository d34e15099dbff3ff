use Rattle.std.proofs.Common.{length, ◌-◌, ◌+◌, ◌*◌, ◌≤◌, ◌≡◌, []}
use Rattle.cv_base.specs.declared.state.WriteState.TheVariants as write
use Rattle.cv_utf7.specs.PendingBits.{pending_of}
use Rattle.cv_utf7.specs.Private.WriteSteps.{written_to, WritesOn}
use Rattle.cv_utf7.proofs.write.groups.write_groups.Given as goal

abbrev pub invariant-loop-group : goal.invariant-loop-group
invariant-loop-group l = record {
  wrote : WritesOn l.characters (written_to (write.Shifted (pending_of [])) l.n l.at) l.fn.out
      (written_to (write.Shifted (pending_of [])) l.count l.end) l.out;
  room : l.end + 5 * (length l.characters - l.count) ≤ length l.out;
  on : l.n ≤ l.count;
  none : l.count ≡ l.n → l.out ≡ l.fn.out;
}

abbrev pub decreases-loop-group : goal.decreases-loop-group
decreases-loop-group l = length l.characters - l.count
