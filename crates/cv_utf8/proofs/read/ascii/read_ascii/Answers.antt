use Rattle.std.proofs.Common.{◌+◌, arith}
use Rattle.cv_utf8.proofs.Utf8Spelled.{read_front}
use Rattle.cv_utf8.proofs.read.ascii.read_ascii.Goals as goal

pub returns-clause-read : goal.returns-clause-read
returns-clause-read c = read_front c.args.input.now c.args.at c.args.buffer.now _ c.args.n 16
    (omega arith) (omega arith) (λ k h. c.requires.ascii (c.args.at + k) (omega arith) (omega arith)) c.requires.room
    c.put_bytes.ensures.size c.put_bytes.ensures.stand
