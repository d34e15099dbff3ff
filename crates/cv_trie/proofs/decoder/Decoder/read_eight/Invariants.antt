use Rattle.std.proofs.Common.{◌+◌}
use Rattle.cv_simd.specs.Splits.{start_of}
use Rattle.cv_trie.specs.Private.Prefixes.{IsRead}
use Rattle.cv_trie.proofs.decoder.Decoder.read_eight.Given as goal

abbrev pub invariant-loop-k : goal.invariant-loop-k
invariant-loop-k l =
    IsRead l.self.trie.now.entries l.input
    (record { n = l.read.n + l.k; used = start_of l.input l.read.used l.k }) l.buffer
