use Rattle.std.proofs.Common.{refl}
use Rattle.cv_utf16.specs.Utf32.{utf32}
use Rattle.cv_utf16.proofs.stateless_utf32.StatelessUtf32StatelessForm.write_many.Goals as goal

pub returns-clause-written : goal.returns-clause-written
returns-clause-written g c = c.write_units.ensures.written (utf32 g.O.ByteOrder.endian) (λ u h. refl)
