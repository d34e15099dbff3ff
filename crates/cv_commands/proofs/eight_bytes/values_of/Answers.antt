use Rattle.std.proofs.Common.{w8}
use Rattle.std.proofs.lemmas.Simd.{below_from_Fits}
use Rattle.cv_commands.proofs.EightBytes.{values_right}
use Rattle.cv_commands.proofs.eight_bytes.values_of.Goals as goal

pub returns : goal.returns
returns c k h = values_right c.args.digits k c.fits-digits.0 (below_from_Fits w8 c.args.digits c.fits-digits.1) h
