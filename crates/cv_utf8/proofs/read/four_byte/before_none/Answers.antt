use Rattle.std.proofs.Common.{arith, lit≤, w32}
use Rattle.std.proofs.Math.Dec.{ltb}
use Rattle.std.proofs.lemmas.Simd.{bitmask_splat}
use Rattle.cv_utf8.proofs.Utf8Long.{before_zero}
use Rattle.cv_utf8.proofs.read.four_byte.before_none.Goals as goal

pub returns-clause-some : goal.returns-clause-some
returns-clause-some c k h =
    let numbers = c.args.numbers.now in
    before_zero numbers _ k (omega arith) (bitmask_splat w32 ltb numbers 16 1 c.requires (lit≤ tt))
    (omega (arith, c.requires, c.min.ensures, h)) (omega (arith, c.min.ensures, h))
