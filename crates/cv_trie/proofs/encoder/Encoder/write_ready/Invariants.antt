use Rattle.std.proofs.Common.{◌≡◌, ◌≤◌, ◌<◌, ◌+◌, ◌*◌, take, length}
use Rattle.cv_trie.specs.Charmaps.{map_writes}
use Rattle.cv_trie.specs.Private.Prefixes.{IsWrittenPrefix}
use Rattle.cv_trie.proofs.encoder.Encoder.write_ready.Given as goal

abbrev pub invariant-loop-k : goal.invariant-loop-k
invariant-loop-k l = record {
  long : length l.buffer ≡ length l.fn.buffer;
  from : l.before.used ≤ l.used;
  reach : l.used ≤ l.before.used + 33 * l.k;
  stays : take l.before.used l.buffer ≡ take l.before.used l.fn.buffer;
  written : l.used < l.before.used + 33
      → IsWrittenPrefix (map_writes l.self.entries.now) (take (l.before.n + l.k) l.characters) l.buffer l.used
      l.before.count;
}
