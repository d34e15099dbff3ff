use Rattle.cv_utf8.proofs.Utf8ReadBack.{utf8_reads_back}
use Rattle.cv_utf8.proofs.laws.utf8_reads_back.Goals as goal

pub returns : goal.returns
returns c = utf8_reads_back
