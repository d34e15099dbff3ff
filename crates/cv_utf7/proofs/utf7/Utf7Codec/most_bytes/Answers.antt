use Rattle.cv_utf7.proofs.Writes.{at_most_six}
use Rattle.cv_utf7.proofs.utf7.Utf7Codec.most_bytes.Goals as goal

pub returns-clause-most : goal.returns-clause-most
returns-clause-most c = at_most_six
