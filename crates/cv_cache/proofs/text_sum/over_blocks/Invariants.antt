use Rattle.std.proofs.Common.{◌≡◌, take}
use Rattle.std.specs.List.{fold}
use Rattle.cv_cache.specs.Private.Sums.{with_block}
use Rattle.cv_cache.proofs.text_sum.over_blocks.Given as goal

abbrev pub invariant-loop-block : goal.invariant-loop-block
invariant-loop-block l = l.chains ≡ fold (with_block l.factor) l.fn.start (take l.block-index l.blocks)
