use Rattle.std.proofs.Common.{refl}
use Rattle.cv_cache.specs.Hashes.{with_byte}
use Rattle.cv_cache.proofs.text_hasher.TextHasher.with.Goals as goal

pub returns : goal.returns
unfolding with_byte
returns c = rw (c.folded.ensures, c.from.ensures) refl
