use Rattle.cv_utf7.proofs.Tables.{digit_at}
use Rattle.cv_utf7.proofs.sets.digit_for.Goals as goal

pub returns : goal.returns
returns c = digit_at c.args.value c.requires
