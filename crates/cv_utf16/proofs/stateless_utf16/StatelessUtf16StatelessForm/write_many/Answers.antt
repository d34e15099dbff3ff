use Rattle.std.proofs.Common.{arith}
use Rattle.cv_block.proofs.FormRuns.{written_after_none}
use Rattle.cv_utf16.specs.Utf16.{utf16}
use Rattle.cv_utf16.proofs.Utf16Units.{one_unit}
use Rattle.cv_utf16.proofs.stateless_utf16.StatelessUtf16StatelessForm.write_many.Goals as goal

pub returns-then-units-gt0-clause-written : goal.returns-then-units-gt0-clause-written
returns-then-units-gt0-clause-written g c =
    c.write_units-units.ensures.written (utf16 g.O.ByteOrder.endian) (one_unit g.O.ByteOrder.endian)

pub returns-clause-written : goal.returns-clause-written
returns-clause-written g c =
    let e = g.O.ByteOrder.endian in
    written_after_none (utf16 e) c.args.characters.now c.args.n c.args.out.now c.args.at c.write_units-units.result
    c.write_units-units.new.out _ _ (omega arith)
    (c.write_units-units.ensures.written (utf16 e) (one_unit e)) c.write_words.ensures.written
