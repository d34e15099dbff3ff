use Rattle.std.proofs.Common.{◌≡◌, ◌≤◌, ◌<◌, ℕ, arith, get_or}
use Rattle.cv_base.proofs.BlockLaws.{bytes_read}
use Rattle.cv_base.proofs.single_byte.AnyBlockCodec.read_block.Goals as goal
use Rattle.cv_base.proofs.single_byte.AnyBlockCodec.read_block.Goals.{then-may_lack, else-may_lack}

pub returns-clause-block : goal.returns-clause-block
returns-clause-block g c =
    let n = c.if-may_lack.n in
    let i = c.loop-k.invariant in
    let all : c.loop-k.k ≡ n = omega (arith, c.loop-k-test.false, c.loop-k.auto.k-end) in
    let within : n ≤ c.min-n.result = elim c.if-may_lack.branch [
      | then-may_lack w ↦ omega (arith, w.n-is, w.below-n.ensures.within)
      | else-may_lack w ↦ omega (arith, w.n-is)
    ] in
    let below : (k : ℕ) → k < n
    → get_or c.args.input.now k 0 < g.S.SingleByte.LIMIT = λ k h. elim c.if-may_lack.branch [
      | then-may_lack w ↦ omega (arith, w.below-n.ensures.below k (omega (arith, w.n-is)), w.LIMIT.ensures)
      | else-may_lack w ↦ omega (arith, w.if-may_lack.false, c.LIMIT-may_lack.ensures, (c.type_inv.input k).fits)
    ] in
    rw c.in-Start.is (bytes_read g.S.SingleByte.LIMIT n c.args.input.now c.loop-k.buffer (omega (arith, within))
    (omega (arith, within, i.size)) (rw all at i.front) below)
