use Rattle.std.proofs.Common.{◌<◌, arith, ltb-true}
use Rattle.cv_base.proofs.AllWritten.{any_bits_more}
use Rattle.cv_base.proofs.bytes.are_below.Goals as goal

pub loop-k-preserved : goal.loop-k-preserved
loop-k-preserved c = rw c.value-any_bits.ensures.number (any_bits_more c.args.characters.now c.loop-k.k
    c.loop-k.any_bits _ c.loop-k.invariant c.index-characters-k.is (omega arith))

pub returns : goal.returns
returns c t =
    let small : c.loop-k.any_bits < c.args.limit = ltb-true c.loop-k.any_bits c.args.limit t in
    λ j h. omega (arith, c.loop-k.invariant j (omega arith))
