use Rattle.std.proofs.Common.{◌+◌, arith}
use Rattle.std.proofs.lemmas.List.{map-id}
use Rattle.cv_transcode.proofs.AsciiRead.{ascii_read}
use Rattle.cv_transcode.proofs.from_utf8.ascii_units.Goals as goal

pub returns : goal.returns
returns c = ascii_read c.args.text.now _ _ c.args.at c.requires.within (λ k h.
    c.requires.ascii (c.args.at + k) (omega arith) (omega arith)) (map-id _) (map-id _)
