use Rattle.std.proofs.Common.{arith, w8, Fits}
use Rattle.std.proofs.lemmas.Simd.{Each1-get_or}
use Rattle.cv_utf8.proofs.Utf8Pairs.{low_pairs, high_pairs}
use Rattle.cv_utf8.proofs.write.two_byte.latin1_pairs.Goals as goal

pub returns-clause-first : goal.returns-clause-first
returns-clause-first c = low_pairs c.args.characters (omega arith)
    (λ k h. (Each1-get_or (Fits w8) c.args.characters k 0 h c.fits-characters.1).fits)

pub returns-clause-second : goal.returns-clause-second
returns-clause-second c = high_pairs c.args.characters (omega arith)
    (λ k h. (Each1-get_or (Fits w8) c.args.characters k 0 h c.fits-characters.1).fits)
