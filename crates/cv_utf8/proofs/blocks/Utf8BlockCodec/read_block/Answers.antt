use Rattle.cv_block.proofs.FormBlocks.{spelled_read}
use Rattle.cv_utf8.proofs.Utf8Spelled.{utf8_reads_spelled}
use Rattle.cv_utf8.proofs.blocks.Utf8BlockCodec.read_block.Goals as goal

pub returns-in-Start-clause-block : goal.returns-in-Start-clause-block
returns-in-Start-clause-block c = rw c.in-Start.is
    (spelled_read _ _ _ utf8_reads_spelled c.args.input.now _ _ _ (rw c.in-Start.is at c.read_stateless.ensures.block))
