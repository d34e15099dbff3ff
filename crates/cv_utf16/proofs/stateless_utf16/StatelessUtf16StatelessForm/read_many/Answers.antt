use Rattle.std.proofs.Common.{arith}
use Rattle.cv_block.proofs.FormRuns.{read_after_none}
use Rattle.cv_utf16.specs.Utf16.{utf16}
use Rattle.cv_utf16.proofs.Utf16Units.{one_unit}
use Rattle.cv_utf16.proofs.stateless_utf16.StatelessUtf16StatelessForm.read_many.Goals as goal

pub returns-clause-read : goal.returns-clause-read
returns-clause-read g c =
    let e = g.O.ByteOrder.endian in
    read_after_none (utf16 e) c.args.input.now c.args.at
    c.args.buffer.now c.args.n c.read_units-single.result c.read_units-single.new.buffer _ _ (omega arith)
    (c.read_units-single.ensures.read (utf16 e) (one_unit e)) c.read_paired.ensures.read
