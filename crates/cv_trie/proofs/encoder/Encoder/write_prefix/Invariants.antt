use Rattle.std.proofs.Common.{◌≡◌, ◌-◌, length}
use Rattle.cv_trie.specs.Private.Prefixes.{IsWritten}
use Rattle.cv_trie.proofs.encoder.Encoder.write_prefix.Given as goal

abbrev pub invariant-loop-written : goal.invariant-loop-written
invariant-loop-written l = record {
  written : IsWritten l.self.entries.now l.characters l.buffer l.written;
  long : length l.buffer ≡ length l.fn.buffer;
}

abbrev pub decreases-loop-written : goal.decreases-loop-written
decreases-loop-written l = length l.characters - l.written.n
