use Rattle.std.proofs.Common.{◌≡◌, take}
use Rattle.std.specs.List.{fold}
use Rattle.cv_cache.specs.Hashes.{with_byte}
use Rattle.cv_cache.proofs.text_hasher.TextHasherHasher.write.Given as goal

abbrev pub invariant-loop-byte : goal.invariant-loop-byte
invariant-loop-byte l = l.hasher ≡ fold with_byte l.fn.self (take l.byte-index l.bytes)
