use Rattle.cv_utf16.specs.Utf16.{utf16}
use Rattle.cv_utf16.proofs.FormReadBack.{form_reads_back}
use Rattle.cv_utf16.proofs.laws.utf16_reads_back.Goals as goal

pub returns : goal.returns
returns c = form_reads_back utf16 c.args.order
