use Rattle.cv_pivot.specs.Encodings.{form_of}
use Rattle.cv_pivot.proofs.EncodingsReadBack.{form_reads_back}
use Rattle.cv_pivot.proofs.laws.read_back.Goals as goal

pub returns : goal.returns
returns c = λ encoding. form_reads_back (form_of encoding)
