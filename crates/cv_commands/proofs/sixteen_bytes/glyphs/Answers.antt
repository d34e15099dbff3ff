use Rattle.cv_commands.proofs.SixteenBytes.{glyphs_are}
use Rattle.cv_commands.proofs.sixteen_bytes.glyphs.Goals as goal

pub returns : goal.returns
returns c = glyphs_are 16 c.args.numbers c.fits-numbers.0 c.requires
