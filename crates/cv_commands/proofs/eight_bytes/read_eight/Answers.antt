use Rattle.std.proofs.Common.{arith}
use Rattle.cv_commands.proofs.EightBytes.{eight_say}
use Rattle.cv_commands.proofs.eight_bytes.read_eight.Goals as goal

pub returns : goal.returns
returns c = eight_say c.args.digits.now c.values_of-values.result c.args.bytes.now c.pack_digits.result c.requires.from
    (omega arith) c.requires.to (omega arith) c.values_of-values.ensures c.pack_digits.ensures
