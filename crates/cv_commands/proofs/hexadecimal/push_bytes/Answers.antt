use Rattle.std.proofs.Common.{◌+◌, ◌/◌, length, ◌∙◌, arith}
use Rattle.cv_commands.proofs.Digits.{appended, part_says_it}
use Rattle.cv_commands.proofs.hexadecimal.push_bytes.Goals as goal

pub returns : goal.returns
returns c =
    let size = c.args.bytes.now.ok in
    let written = c.read_digits.auto.bytes in
    part_says_it c.read_digits.result c.args.digits.now c.args.bytes.now.items _ _ c.read_digits.ensures
    (appended c.args.bytes.now.items c.deref_mut.result.now c.read_digits.new.bytes _ _ _ c.resize.new.self.len
    c.len-start.result (c.len-start.result + length c.args.digits.now / 2)
    (omega (arith, size.0, c.len-start.ensures)) (c.deref_mut.ensures.value ∙ c.in_ok-resize.ensures.items)
    (omega (arith, size.0, c.len-start.ensures)) (omega (arith, c.in_ok-resize.ensures.len, written)))
