use Rattle.std.proofs.Common.{◌≤◌, ◌-◌, length}
use Rattle.cv_trie.specs.Private.Prefixes.{IsRead}
use Rattle.cv_trie.proofs.decoder.Decoder.read_mixed.Given as goal

abbrev pub invariant-loop-n : goal.invariant-loop-n
invariant-loop-n l = record {
  read : IsRead l.self.trie.now.entries l.input (record { n = l.n; used = l.used }) l.buffer;
  on : l.fn.read.n ≤ l.n;
  few : l.most ≤ length l.buffer;
}

abbrev pub decreases-loop-n : goal.decreases-loop-n
decreases-loop-n l = length l.buffer - l.n
