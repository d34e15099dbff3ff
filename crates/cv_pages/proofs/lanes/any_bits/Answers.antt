use Rattle.std.proofs.Common.{ℕ, get_or}
use Rattle.cv_pages.proofs.AnyBits.{any_bits_more}
use Rattle.cv_pages.proofs.lanes.any_bits.Goals as goal

pub loop-k-preserved : goal.loop-k-preserved
loop-k-preserved c =
    any_bits_more (λ (j : ℕ). get_or c.args.numbers.now j 0) c.loop-k.k c.loop-k.bits c.loop-k.invariant
