use Rattle.std.proofs.Common.{arith, w8}
use Rattle.std.specs.Simd.Lanes.{chunk}
use Rattle.std.proofs.lemmas.Simd.{below_from_Fits, length-chunk}
use Rattle.cv_commands.proofs.SixteenBytes.{high_small, low_small, sixteen_written}
use Rattle.cv_commands.proofs.sixteen_bytes.sixteen_digits.Goals as goal

pub glyphs-requires : goal.glyphs-requires
glyphs-requires c =
    high_small (chunk 0 16 c.args.bytes.now) c.type_inv.numbers.0 (below_from_Fits w8 _ c.type_inv.numbers.1)

pub glyphs-requires-2 : goal.glyphs-requires-2
glyphs-requires-2 c = low_small (chunk 0 16 c.args.bytes.now) (length-chunk 0 16 c.args.bytes.now (omega arith))

pub returns : goal.returns
returns c =
    sixteen_written c.args.bytes.now c.glyphs.result c.glyphs-2.result c.requires c.glyphs.ensures c.glyphs-2.ensures
