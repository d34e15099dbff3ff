use Rattle.cv_lex.proofs.LineBytes.{mapping_has_bytes}
use Rattle.cv_lex.proofs.line.read_line.Goals as goal

pub returns-then-marks-clause-bytes : goal.returns-then-marks-clause-bytes
returns-then-marks-clause-bytes c =
    mapping_has_bytes c.args.marks.now.escape c.args.line.now c.read_mapping.result c.read_mapping.ensures
