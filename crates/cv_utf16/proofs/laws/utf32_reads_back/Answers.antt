use Rattle.cv_utf16.specs.Utf32.{utf32}
use Rattle.cv_utf16.proofs.FormReadBack.{form_reads_back}
use Rattle.cv_utf16.proofs.laws.utf32_reads_back.Goals as goal

pub returns : goal.returns
returns c = form_reads_back utf32 c.args.order
