use Rattle.std.proofs.Common.{sym}
use Rattle.cv_commands.proofs.Numbers.{bytes_long, bytes_fit}
use Rattle.cv_commands.proofs.requests.bytes_of.Goals as goal

pub returns-then-word-most : goal.returns-then-word-most
returns-then-word-most c = bytes_long c.args.word.now c.args.most c.if-word-most.true

pub returns-in-Ok-Some : goal.returns-in-Ok-Some
returns-in-Ok-Some c =
    let says = rw c.in-Ok-Some.field-0-is at c.in-Ok-Some.ensures in
    (sym says, bytes_fit c.args.word.now _ c.args.most (sym says) c.if-word-most.false)
