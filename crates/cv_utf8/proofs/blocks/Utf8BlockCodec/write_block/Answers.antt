use Rattle.cv_block.proofs.FormBlocks.{spelled_written}
use Rattle.cv_utf8.specs.Utf8.{utf8_writes}
use Rattle.cv_base.specs.declared.state.WriteState.TheVariants as write
use Rattle.cv_utf8.proofs.AllWritten.{utf8_allowed}
use Rattle.cv_utf8.proofs.Utf8Spelled.{utf8_writes_spelled}
use Rattle.cv_utf8.proofs.blocks.Utf8BlockCodec.write_block.Goals as goal

pub returns-in-Start : goal.returns-in-Start
returns-in-Start c = rw c.in-Start.is (
  utf8_allowed c.args._policy write.Start c.args.characters.now,
  spelled_written utf8_writes _ _ utf8_writes_spelled c.args.characters.now c.args.out.now c.args.at _ _
      (rw c.in-Start.is at c.write_stateless.ensures),
)
