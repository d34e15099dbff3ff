use Rattle.std.proofs.Common.{◌≡◌, ◌≤◌, ◌*◌, take, length}
use Rattle.cv_trie.specs.Charmaps.{map_writes}
use Rattle.cv_trie.specs.Private.Prefixes.{IsWrittenPrefix}
use Rattle.cv_trie.proofs.encoder.Encoder.write_few.Given as goal

abbrev pub invariant-loop-k : goal.invariant-loop-k
invariant-loop-k l = record {
  written : IsWrittenPrefix (map_writes l.self.entries.now) (take l.k l.characters) l.buffer l.used l.count;
  short : l.used ≤ 8 * l.k;
  few : l.count ≤ l.k;
  long : length l.buffer ≡ length l.fn.buffer;
}
