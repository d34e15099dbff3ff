use Rattle.std.proofs.Common.{◌∙◌}
use Rattle.cv_lex.proofs.DigitValues.{value_at}
use Rattle.cv_lex.proofs.words.digit.Goals as goal

pub returns : goal.returns
returns c = c.from.ensures ∙ value_at c.args.byte c.ranges.byte.fits
