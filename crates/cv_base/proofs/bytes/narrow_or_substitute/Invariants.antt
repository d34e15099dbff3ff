use Rattle.std.proofs.Common.{◌+◌}
use Rattle.cv_base.specs.SingleBytes.{byte_writes}
use Rattle.cv_base.specs.declared.state.WriteState.TheVariants as write
use Rattle.cv_base.proofs.WrittenEach.{WrittenSoFar}
use Rattle.cv_base.proofs.bytes.narrow_or_substitute.Given as goal

abbrev pub invariant-loop-k : goal.invariant-loop-k
invariant-loop-k l =
    WrittenSoFar (byte_writes l.limit) write.Start l.characters l.fn.out l.at l.k (l.at + l.k) l.count write.Start l.out
