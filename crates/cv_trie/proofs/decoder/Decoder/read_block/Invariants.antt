use Rattle.std.proofs.Common.{◌≡◌, ◌-◌, length}
use Rattle.cv_trie.specs.Private.Prefixes.{IsRead}
use Rattle.cv_trie.proofs.decoder.Decoder.read_block.Given as goal

abbrev pub invariant-loop-read : goal.invariant-loop-read
invariant-loop-read l = record {
  read : IsRead l.self.trie.now.entries l.input l.read l.buffer;
  size : length l.buffer ≡ length l.fn.buffer;
}

abbrev pub decreases-loop-read : goal.decreases-loop-read
decreases-loop-read l = length l.buffer - l.read.n
