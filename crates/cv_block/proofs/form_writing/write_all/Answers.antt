use Rattle.std.proofs.Common.{arith}
use Rattle.cv_block.proofs.FormRuns.{written_few, written_more}
use Rattle.cv_block.proofs.form_writing.write_all.Goals as goal

pub write_some-some-requires-clause-room : goal.write_some-some-requires-clause-room
write_some-some-requires-clause-room g c =
    let i = c.loop-n.invariant in
    omega (arith, written_few _ c.assert_short.ensures.short _ 0 _ 0 _ _ i, i.size, i.within)

pub loop-n-preserved : goal.loop-n-preserved
loop-n-preserved g c = written_more _ _ 0 _ 0 _ _ _ _ _ c.loop-n.used c.loop-n.n _ c.loop-n.invariant (omega arith)
    (omega arith) c.write_some-some.ensures.bytes

pub slice_bounds-copy_from_slice-end : goal.slice_bounds-copy_from_slice-end
slice_bounds-copy_from_slice-end g c =
    let i = c.loop-n.invariant in
    omega (arith, written_few _ c.assert_short.ensures.short _ 0 _ 0 _ _ i, i.within)
