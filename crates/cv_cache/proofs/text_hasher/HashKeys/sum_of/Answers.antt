use Rattle.std.proofs.Common.{refl}
use Rattle.cv_cache.specs.Private.Sums.{sum_of}
use Rattle.cv_cache.proofs.text_hasher.HashKeys.sum_of.Goals as goal

pub returns : goal.returns
unfolding sum_of
returns c = rw (
  c.ended.ensures,
  c.over_bytes.ensures,
  c.over_blocks-chains.ensures,
  c.start-start.ensures,
  c.as_chunks.ensures.front,
  c.as_chunks.ensures.back,
) refl
