use Rattle.std.proofs.Common.{◌+◌, ◌*◌}
use Rattle.cv_base.specs.SingleBytes.{byte_writes}
use Rattle.cv_base.specs.declared.state.WriteState.TheVariants as write
use Rattle.cv_base.proofs.WrittenEach.{WrittenSoFar}
use Rattle.cv_base.proofs.substituting.write_blocks.Given as goal

abbrev pub invariant-loop-block : goal.invariant-loop-block
invariant-loop-block l = WrittenSoFar (byte_writes l.limit) write.Start l.characters l.fn.out l.at (16 * l.block)
    (l.at + 16 * l.block) l.count write.Start l.out
