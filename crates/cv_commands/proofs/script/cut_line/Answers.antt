use Rattle.std.proofs.Common.{◌+◌, refl, arith}
use Rattle.std.proofs.lemmas.List.{take_rest}
use Rattle.cv_commands.proofs.LineCuts.{one_line, first_line}
use Rattle.cv_commands.proofs.script.cut_line.Goals as goal

pub returns-then-n-text-clause-lines : goal.returns-then-n-text-clause-lines
returns-then-n-text-clause-lines c = one_line c.args.text.now _ c.bytes_before-n.ensures.value (omega arith)

pub returns-clause-lines : goal.returns-clause-lines
returns-clause-lines c = first_line c.args.text.now _ _ c.bytes_before-n.result c.bytes_before-n.ensures.value
    (let some = c.if-n-text.false in let within = c.bytes_before-n.ensures.within in omega (arith, some, within)) refl
    (take_rest c.args.text.now (c.bytes_before-n.result + 1))
