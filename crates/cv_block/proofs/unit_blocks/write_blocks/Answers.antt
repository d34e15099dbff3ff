use Rattle.std.proofs.Common.{◌≡◌, ◌≤◌, ◌+◌, ◌*◌, arith}
use Rattle.std.proofs.Math.Nat.{mul-le-mul_left}
use Rattle.std.proofs.lemmas.List.{take_rest}
use Rattle.cv_base.specs.Units.{unit_size}
use Rattle.cv_block.proofs.AsciiRuns.{put_none, put_join, block_more}
use Rattle.cv_block.proofs.unit_blocks.write_blocks.Goals as goal

pub loop-block-init : goal.loop-block-init
loop-block-init g c = record {
  index = omega arith;
  end = omega arith;
  put = put_none _ _ _ _ c.args.at;
}

pub loop-block-preserved : goal.loop-block-preserved
loop-block-preserved g c =
    let i = c.loop-block.invariant in
    let n = 16 * c.loop-block._block in
    let next : n + 16 ≡ 16 * (c.loop-block._block + 1) = omega arith in
    let more : unit_size g.To.Unit.form * (n + 16) ≤ unit_size g.To.Unit.form * (16 * g.row.BLOCKS) =
    mul-le-mul_left (unit_size g.To.Unit.form) (omega arith) in
    record {
      index = omega (arith, c.size.ensures, block_more g.From.Unit.form c.loop-block._block);
      end = omega (arith, c.size-in-loop-block.ensures, block_more g.To.Unit.form c.loop-block._block);
      put = rw next at (put_join g.From.Unit.form g.To.Unit.form c.args.units.now c.args.out.now
          c.args.at n 16 c.loop-block.used c.loop-block.end c.loop-block.out _ (omega (arith, more)) i.index i.end i.put
          (rw (take_rest c.args.units.now c.loop-block.used) at c.write_block.ensures));
    }
