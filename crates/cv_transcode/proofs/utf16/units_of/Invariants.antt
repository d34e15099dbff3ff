use Rattle.std.proofs.Common.{◌≡◌, ◌*◌, length}
use Rattle.cv_base.specs.declared.ascii_form.AsciiForm.TheVariants.{Two}
use Rattle.cv_block.specs.Units.{AreUnits}
use Rattle.cv_transcode.proofs.utf16.units_of.Given as goal

abbrev pub invariant-loop-k : goal.invariant-loop-k
invariant-loop-k g l = record {
  place : l.at ≡ 2 * l.k;
  long : length l.units ≡ 16;
  units : AreUnits (Two g.O.ByteOrder.endian) l.text l.units l.k;
}
