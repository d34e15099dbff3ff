use Rattle.std.proofs.Common.{arith}
use Rattle.cv_utf8.proofs.Utf8AnyBits.{joined_more}
use Rattle.cv_utf8.proofs.Utf8Written.{sixteen_below}
use Rattle.cv_utf8.proofs.stateless_utf8.StatelessUtf8StatelessForm.write_many.Goals as goal

pub loop-lane-preserved : goal.loop-lane-preserved
loop-lane-preserved c =
    joined_more c.args.characters.now c.args.n c.loop-lane.lane c.loop-lane.any_bits c.index-characters-n.result
    c.value-any_bits.result (omega arith) c.loop-lane.invariant c.index-characters-n.is c.value-any_bits.ensures.number

pub write_two_byte-requires-clause-short : goal.write_two_byte-requires-clause-short
write_two_byte-requires-clause-short c = sixteen_below 0x800 c.args.characters.now _ c.args.n
    c.units_of-then-any_bits-ge128.ensures (λ k h. omega (arith, c.loop-lane.invariant k (omega arith)))

pub write_one_byte-requires-clause-ascii : goal.write_one_byte-requires-clause-ascii
write_one_byte-requires-clause-ascii c = sixteen_below 0x80 c.args.characters.now _ c.args.n
    c.units_of-else-any_bits-ge128.ensures (λ k h. omega (arith, c.loop-lane.invariant k (omega arith)))
