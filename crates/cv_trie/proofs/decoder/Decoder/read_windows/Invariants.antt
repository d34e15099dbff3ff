use Rattle.std.proofs.Common.{◌<◌, ◌≤◌, ◌-◌, length}
use Rattle.cv_trie.specs.Private.Prefixes.{IsRead}
use Rattle.cv_trie.proofs.decoder.Decoder.read_windows.Given as goal

abbrev pub invariant-loop-next : goal.invariant-loop-next
invariant-loop-next l = record {
  read : IsRead l.self.trie.now.entries l.input l.now l.buffer;
  more : l.now.used < length l.input;
  on : l.fn.read.n ≤ l.now.n;
}

abbrev pub decreases-loop-next : goal.decreases-loop-next
decreases-loop-next l = length l.buffer - l.now.n
