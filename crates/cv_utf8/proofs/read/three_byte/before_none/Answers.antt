use Rattle.std.proofs.Common.{arith, lit≤, w16}
use Rattle.std.proofs.Math.Dec.{ltb}
use Rattle.std.proofs.lemmas.Simd.{bitmask_splat}
use Rattle.cv_utf8.proofs.Utf8Long.{before_zero}
use Rattle.cv_utf8.proofs.read.three_byte.before_none.Goals as goal

pub returns-clause-some : goal.returns-clause-some
returns-clause-some c k h =
    let numbers = c.args.numbers in
    let long = c.fits-numbers.0 in
    before_zero numbers _ k (omega arith) (bitmask_splat w16 ltb numbers 8 1 long (lit≤ tt))
    (omega (arith, long, c.min.ensures, h)) (omega (arith, c.min.ensures, h))
