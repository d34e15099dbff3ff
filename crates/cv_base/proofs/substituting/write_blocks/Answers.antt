use Rattle.std.proofs.Common.{◌≡◌, ◌+◌, ◌*◌, arith}
use Rattle.cv_base.proofs.WrittenEach.{more_written}
use Rattle.cv_base.proofs.substituting.write_blocks.Goals as goal

pub loop-block-preserved : goal.loop-block-preserved
loop-block-preserved c =
    let n = 16 * c.loop-block.block in
    let more = more_written _ _ c.args.characters.now c.args.out.now c.args.at n (c.args.at + n) c.loop-block.count
    _ c.loop-block.out c.loop-block.invariant 16 16 c.write_block-count.result _ _ c.write_block-count.ensures.written
    (omega arith) c.write_block-count.ensures.few in
    let e : c.args.at + 16 * (c.loop-block.block + 1) ≡ c.args.at + n + 16 = omega arith in
    let f : 16 * (c.loop-block.block + 1) ≡ n + 16 = omega arith in
    rw (e, f) more
