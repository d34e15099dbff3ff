use Rattle.std.proofs.Common.{◌+◌}
use Rattle.cv_trie.specs.Private.Prefixes.{IsRead}
use Rattle.cv_trie.proofs.decoder.Decoder.read_eight_singles.Given as goal

abbrev pub invariant-loop-k : goal.invariant-loop-k
invariant-loop-k l =
    IsRead l.self.trie.now.entries l.input (record { n = l.read.n + l.k; used = l.read.used + l.k }) l.buffer
