use Rattle.std.proofs.Common.{◌≡◌, ◌*◌, length}
use Rattle.cv_base.specs.declared.ascii_form.AsciiForm.TheVariants.{Four}
use Rattle.cv_block.specs.Units.{AreUnits}
use Rattle.cv_transcode.proofs.utf32.numbers_of.Given as goal

abbrev pub invariant-loop-k : goal.invariant-loop-k
invariant-loop-k g l = record {
  place : l.at ≡ 4 * l.k;
  long : length l.numbers ≡ 16;
  units : AreUnits (Four g.O.ByteOrder.endian) l.text l.numbers l.k;
}
