use Rattle.std.proofs.Common.{◌≡◌, ◌+◌, ◌*◌, arith}
use Rattle.std.proofs.lemmas.Bool.{and_parts}
use Rattle.cv_block.proofs.AsciiRuns.{runs_join, block_more}
use Rattle.cv_block.proofs.limited_units.are_blocks_below.Goals as goal

pub loop-block-preserved : goal.loop-block-preserved
loop-block-preserved g c =
    let i = c.loop-block.invariant in
    let n = 16 * c.loop-block._block in
    let next : n + 16 ≡ 16 * (c.loop-block._block + 1) = omega arith in
    record {
      index = omega (arith, c.size.ensures, block_more g.U.Unit.form c.loop-block._block);
      small = λ h. rw next at (runs_join _ _ c.args.units.now c.loop-block.index n 16 i.index
          (i.small (and_parts _ _ h).0) (c.are_below-all.ensures (and_parts _ _ h).1));
    }
