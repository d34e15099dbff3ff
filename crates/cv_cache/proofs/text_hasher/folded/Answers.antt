use Rattle.std.proofs.Common.{refl}
use Rattle.cv_cache.specs.Hashes.{folded}
use Rattle.cv_cache.proofs.text_hasher.folded.Goals as goal

pub returns : goal.returns
unfolding folded
returns c = refl
