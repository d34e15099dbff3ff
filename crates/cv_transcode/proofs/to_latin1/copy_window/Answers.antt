use Rattle.std.proofs.Common.{◌+◌, arith}
use Rattle.cv_transcode.proofs.ToLatin1.{ascii_copied}
use Rattle.cv_transcode.proofs.to_latin1.copy_window.Goals as goal

pub returns : goal.returns
returns c = ascii_copied c.args.text.now c.args.out.now c.args.from c.args.at c.requires.within (λ k h.
    c.requires.ascii (c.args.from + k) (omega arith) (omega arith)) c.requires.room
