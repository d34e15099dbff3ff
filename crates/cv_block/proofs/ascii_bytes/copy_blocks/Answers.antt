use Rattle.std.proofs.Common.{arith, refl}
use Rattle.cv_block.proofs.CopiedBytes.{copy_more, below_more}
use Rattle.cv_block.proofs.ascii_bytes.copy_blocks.Goals as goal

pub loop-n-preserved : goal.loop-n-preserved
loop-n-preserved o c =
    let i = c.loop-n.invariant in
    let size = o.row.BYTES in
    record {
      within = omega arith;
      ascii = below_more c.args.rest.now c.loop-n.n size i.ascii
          (rw c.requires.whole at (c.are_ascii.ensures c.if-are_ascii.true));
      out = copy_more c.args.rest.now c.args.out.now c.args.at c.loop-n.n size _ c.loop-n.out _ refl (omega arith)
          (omega arith) i.out (rw c.requires.whole at c.copy_block.ensures);
    }
