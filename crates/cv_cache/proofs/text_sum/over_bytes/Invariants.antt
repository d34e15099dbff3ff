use Rattle.std.proofs.Common.{◌≡◌, take}
use Rattle.std.specs.List.{fold}
use Rattle.cv_cache.specs.Private.Sums.{with_byte}
use Rattle.cv_cache.proofs.text_sum.over_bytes.Given as goal

abbrev pub invariant-loop-byte : goal.invariant-loop-byte
invariant-loop-byte l = l.chains ≡ fold (with_byte l.factor) l.fn.start (take l.byte-index l.bytes)
