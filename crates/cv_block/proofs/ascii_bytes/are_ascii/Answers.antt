use Rattle.std.proofs.Common.{◌+◌, ◌*◌, arith}
use Rattle.cv_block.proofs.SixteenBelow.{sixteen_more}
use Rattle.cv_block.proofs.ascii_bytes.are_ascii.Goals as goal

pub loop-block-preserved : goal.loop-block-preserved
loop-block-preserved o c h k l m =
    sixteen_more c.args.bytes.now c.args.at (c.args.at + c.loop-block.block * 16) c.loop-block.all (omega arith)
    c.loop-block.invariant h k l (omega (arith, m))
