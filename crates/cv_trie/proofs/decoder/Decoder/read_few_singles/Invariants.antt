use Rattle.std.proofs.Common.{◌≤◌, ◌+◌, ◌-◌}
use Rattle.cv_trie.specs.Private.Prefixes.{IsRead}
use Rattle.cv_trie.proofs.decoder.Decoder.read_few_singles.Given as goal

abbrev pub invariant-loop-k : goal.invariant-loop-k
invariant-loop-k l = record {
  read : IsRead l.self.trie.now.entries l.input
      (record { n = l.read.n + l.k; used = l.read.used + l.k }) l.buffer;
  few : l.k ≤ l.most;
}

abbrev pub decreases-loop-k : goal.decreases-loop-k
decreases-loop-k l = l.most - l.k
