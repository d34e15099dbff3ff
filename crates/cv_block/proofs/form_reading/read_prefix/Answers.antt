use Rattle.std.proofs.Common.{arith}
use Rattle.cv_block.proofs.FormRuns.{read_within, read_more}
use Rattle.cv_block.proofs.form_reading.read_prefix.Goals as goal

pub read_some-some-requires-clause-within : goal.read_some-some-requires-clause-within
read_some-some-requires-clause-within g c = omega (arith, read_within _ _ 0 _ 0 _ _ c.loop-n.invariant (omega arith))

pub overflow_add-used : goal.overflow_add-used
overflow_add-used g c =
    let front = read_within _ _ 0 _ 0 _ _ c.loop-n.invariant (omega arith) in
    omega (arith, read_within _ _ c.loop-n.used _ c.loop-n.n _ _ c.read_some-some.ensures (omega (arith, front)))

pub loop-n-preserved : goal.loop-n-preserved
loop-n-preserved g c = read_more _ _ 0 _ 0 _ _ _ _ _ c.loop-n.used c.loop-n.n _ c.loop-n.invariant (omega arith)
    (omega arith) c.read_some-some.ensures
