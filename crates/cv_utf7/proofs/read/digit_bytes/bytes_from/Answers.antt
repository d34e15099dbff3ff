use Rattle.std.proofs.Common.{arith, refl, ◌-◌}
use Rattle.cv_utf7.proofs.DigitLanes.{indexes_ok, byte_from}
use Rattle.cv_utf7.proofs.read.digit_bytes.bytes_from.Goals as goal

pub swizzle : goal.swizzle
swizzle c = indexes_ok (c.args.at - c.min-base.result) _ (omega arith) refl

pub returns : goal.returns
returns c i h l = byte_from c.args.input.now c.args.at c.min-base.result _ i (omega arith) (omega arith) refl h
    (omega arith)
