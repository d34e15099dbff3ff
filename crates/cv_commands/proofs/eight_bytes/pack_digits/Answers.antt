use Rattle.std.proofs.Common.{w8}
use Rattle.std.proofs.lemmas.Simd.{below_from_Fits}
use Rattle.cv_commands.proofs.EightBytes.{joined_at}
use Rattle.cv_commands.proofs.eight_bytes.pack_digits.Goals as goal

pub returns : goal.returns
returns c k h = joined_at c.args.values k c.fits-values.0 (below_from_Fits w8 c.args.values c.fits-values.1) h
