use Rattle.cv_base.proofs.BlockLaws.{no_run}
use Rattle.cv_base.proofs.block_codec.BlockCodec.write_ascii_run.Goals as goal

pub returns : goal.returns
returns g c = no_run _ c.args._state c.args._form c.args._text.now c.args._out.now c.args._at c.requires
