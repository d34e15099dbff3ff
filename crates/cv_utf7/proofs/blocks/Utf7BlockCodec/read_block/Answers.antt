use Rattle.cv_utf7.proofs.ReadSteps.{reads_more, is_block}
use Rattle.cv_utf7.proofs.blocks.Utf7BlockCodec.read_block.Goals as goal

pub loop-run-preserved : goal.loop-run-preserved
loop-run-preserved c =
    let run = reads_more c.loop-run.invariant c.read_on-run.ensures in
    reads_more run c.in-Some.ensures.one.0

pub returns-then-run-input-clause-block : goal.returns-then-run-input-clause-block
returns-then-run-input-clause-block c =
    is_block _ _ c.args.buffer.now _ _ (reads_more c.loop-run.invariant c.read_on-run.ensures)

pub returns-in-None-clause-block : goal.returns-in-None-clause-block
returns-in-None-clause-block c =
    let run = reads_more c.loop-run.invariant c.read_on-run.ensures in
    rw c.in-None.ensures.none (is_block _ _ c.args.buffer.now _ _ run)
